use Rattle.std.proofs.Common.{not, sym, ap, ◌∙◌}
use Rattle.sipl_zonestore.specs.SetTable.{has_data}
use Rattle.sipl_zonestore.proofs.SetTables.{data_at, has_data-found}
use Rattle.sipl_zonestore.proofs.sets.SetTable.has_data.Goals as goal

pub returns-in-Some : goal.returns-in-Some
returns-in-Some c =
    ap not c.is_empty.ensures
    ∙ ap data_at c.in-Some.ensures.value
    ∙ sym (has_data-found c.self.inside.owners.entries c.args.owner.now)
    ∙ ap (λ owners. has_data owners c.args.owner.now) c.self.view_is

pub returns-in-None : goal.returns-in-None
returns-in-None c =
    ap data_at c.in-None.ensures.value
    ∙ sym (has_data-found c.self.inside.owners.entries c.args.owner.now)
    ∙ ap (λ owners. has_data owners c.args.owner.now) c.self.view_is
