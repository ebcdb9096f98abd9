use Rattle.std.proofs.Common.{sym, ◌∙◌}
use Rattle.std.specs.Cmp.{nat_eq_equiv}
use Rattle.std.proofs.lemmas.List.{length-take-le}
use Rattle.indexmap.proofs.MapLemmas.{distinct-take}
use Rattle.sipl_repair.proofs.Members.{len-ids}
use Rattle.sipl_repair.proofs.id_set.IdSet.len.Goals as goal

pub returns : goal.returns
returns c =
    let s = c.self.inside in
    sym (len-ids _ _ _ c.self.view_is (distinct-take nat_eq_equiv s.present s.ids.keys c.self.invariant.distinct) ∙ length-take-le s.present s.ids.keys c.self.invariant.within)
