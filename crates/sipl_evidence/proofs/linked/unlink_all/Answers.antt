use Rattle.std.proofs.Common.{◌≡◌, eqb, not, ◌&&◌, sym, ap, ◌∙◌, arith, inl, inr}
use Rattle.std.proofs.lemmas.Bool.{cases_Bool, eqb-true, ltb-false}
use Rattle.sipl_evidence.specs.Lists.{len_of}
use Rattle.sipl_evidence.specs.Dependents.{depends}
use Rattle.sipl_evidence.specs.Linked.{pairs_of}
use Rattle.sipl_evidence.proofs.Linking.{depends-gone}
use Rattle.sipl_evidence.proofs.linked.unlink_all.Goals as goal

pub returns-clause-pairs : goal.returns-clause-pairs
returns-clause-pairs c = λ code other.
    elim (cases_Bool (eqb c.args.id other)) [
      | inl own ↦
          let none : len_of c.unlink_last.new.by_id c.args.id ≡ 0 = omega (arith, c.unlink_last.ensures.len, ltb-false _ _ (sym c.unlink_last.ensures.some ∙ c.loop-test.false)) in
          ap (depends (pairs_of c.unlink_last.new.by_code) code) (sym (eqb-true _ _ own))
          ∙ depends-gone c.unlink_last.new.by_code c.unlink_last.new.by_id c.args.id c.unlink_last.ensures.paired none code
          ∙ ap (λ b. not b && depends (pairs_of c.args.by_code.now) code other) (sym own)
      | inr apart ↦
          c.unlink_last.ensures.others code other apart
          ∙ c.loop.invariant.others code other apart
          ∙ ap (λ b. not b && depends (pairs_of c.args.by_code.now) code other) (sym apart)
    ]
