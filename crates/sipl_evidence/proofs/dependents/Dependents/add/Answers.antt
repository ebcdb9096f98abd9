use Rattle.std.proofs.Common.{length, ap, ◌∙◌, arith}
use Rattle.sipl_evidence.specs.Dependents.{DependentsState, depends}
use Rattle.sipl_evidence.proofs.Linking.{HasSpace-fewer}
use Rattle.sipl_evidence.proofs.dependents.Dependents.add.Goals as goal

pub link_all-requires-clause-new : goal.link_all-requires-clause-new
link_all-requires-clause-new c = λ code.
    ap (λ (s : DependentsState). depends s.pairs code c.args.id) c.self.view_is ∙ c.requires.new code

pub invariant_of-self : goal.invariant_of-self
invariant_of-self c =
    let d = c.self.inside in
    let room = ap (λ (s : DependentsState). s.room) c.self.view_is in
    let len = ap length c.items-items.ensures.items in
    record {
      paired = c.link_all.ensures.paired;
      codes = c.link_all.ensures.codes _ (HasSpace-fewer d.by_code d.room _ (omega (arith, c.requires.room)) c.self.invariant.codes);
      ids = c.link_all.ensures.ids _ (HasSpace-fewer d.by_id d.room _ (omega (arith, c.requires.room)) c.self.invariant.ids);
    }
