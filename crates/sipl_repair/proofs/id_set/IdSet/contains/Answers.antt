use Rattle.std.proofs.Common.{sym, ◌∙◌}
use Rattle.sipl_repair.proofs.Members.{contains-ids}
use Rattle.sipl_repair.proofs.Places.{list_any-take_at, list_any-take_absent}
use Rattle.sipl_repair.proofs.id_set.IdSet.contains.Goals as goal

pub returns-in-Some : goal.returns-in-Some
returns-in-Some c =
    list_any-take_at _ c.self.inside.ids.keys _ _ (sym c.in-Some.ensures.index) c.self.invariant.within
    ∙ sym (contains-ids _ _ _ c.args.id c.self.view_is)

pub returns-in-None : goal.returns-in-None
returns-in-None c =
    sym (list_any-take_absent _ c.self.inside.ids.keys c.self.inside.present (sym c.in-None.ensures.found))
    ∙ sym (contains-ids _ _ _ c.args.id c.self.view_is)
