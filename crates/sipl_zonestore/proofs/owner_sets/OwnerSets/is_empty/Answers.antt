use Rattle.std.proofs.Common.{ap, ◌∙◌}
use Rattle.std.specs.List.{list_all}
use Rattle.sipl_zonestore.specs.Numbers.{is_empty}
use Rattle.sipl_zonestore.specs.SetTable.{has_no_data}
use Rattle.sipl_zonestore.proofs.OwnerSets.{no_data-once}
use Rattle.sipl_zonestore.proofs.owner_sets.OwnerSets.is_empty.Goals as goal

pub returns : goal.returns
returns c = c.all_empty.ensures ∙ ap (list_all (λ own. is_empty own.set.values)) c.deref.ensures.value ∙ no_data-once c.self.inside.sets.items c.self.invariant ∙ ap has_no_data c.self.view_is
