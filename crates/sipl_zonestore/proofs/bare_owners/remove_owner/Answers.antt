use Rattle.std.proofs.Common.{not, ap, sym, ◌∙◌, is_some}
use Rattle.indexmap.specs.IndexSet.{contains}
use Rattle.sipl_names.specs.Labels.{same_name}
use Rattle.sipl_zonestore.proofs.BareOwners.{name-less}
use Rattle.sipl_zonestore.proofs.bare_owners.remove_owner.Goals as goal

pub returns-then-is_none : goal.returns-then-is_none
returns-then-is_none c = λ name.
    name-less c.args.old.now name (contains same_name c.args.owners.now name) (contains same_name c.swap_remove.new.self name) (ap is_some (sym c.kind.ensures) ∙ c.is_none.ensures ∙ ap not c.if-is_none.true) (c.swap_remove.ensures.updates.0 name)
