use Rattle.std.proofs.Common.{◌≡◌, List, [], ◌∷◌, length, ap, arith, append-nil, append_assoc, subst, sym, ◌∙◌}
use Rattle.std.specs.Vec.Iter.{into_iter_items}
use Rattle.sipl_interleave.specs.Plays.{Plays, asked_by}
use Rattle.sipl_interleave.specs.declared.step.Step.{Step}
use Rattle.sipl_interleave.proofs.Lasting.{step-world}
use Rattle.sipl_interleave.proofs.Right.{all-journal, all-right, asked-knows, plays-push}
use Rattle.sipl_interleave.proofs.world.play.Goals as goal

nothing_left : {X : Type 0} (xs : List X) → length xs ≡ 0 → xs ≡ []
nothing_left [] none = ap (λ n. []) none
nothing_left (x ∷ xs) none = absurd (omega arith)

pub loop-step-preserved : goal.loop-step-preserved
loop-step-preserved c =
    let at = c.loop-step in
    let x = c.in-Some.step in
    let steps : into_iter_items at.step-iterator ≡ x ∷ into_iter_items c.next.new.self = c.in-Some.ensures.steps.0 in
    let gone = c.in-Some.ensures.steps.1 in
    let short = ap length steps in
    let good = step-world x at.world _ c.step.result at.invariant.good c.step.ensures in
    record {
      steps = append_assoc at.yielded (x ∷ []) _ ∙ rw (← steps) at.invariant.steps;
      played = rw c.push_reserved.ensures.items (plays-push at.yielded _ at.world _ at.replies.items x c.step.result at.invariant.played c.step.ensures good);
      good = good;
      len = let was = at.invariant.len in omega arith;
      space = let was = at.invariant.space in let len = c.push_reserved.ensures.len in let capacity = c.push_reserved.ensures.capacity in omega arith;
    }

pub returns-clause-answers : goal.returns-clause-answers
returns-clause-answers c =
    let at = c.loop-step in
    let none = c.in-None.ensures.steps in
    let empty : into_iter_items at.step-iterator ≡ [] = nothing_left _ (sym at.invariant.len ∙ none.0) in
    let all = sym (append-nil at.yielded) ∙ rw empty at at.invariant.steps ∙ c.into_iter-step-iterator.ensures.into_iter_gives.0 in
    let old = c.args.world.now in
    all-right (asked_by old.workers) c.args.steps.items old at.world at.replies.items (asked-knows old.workers)
    (subst (λ (l : List Step). Plays l old at.replies.items at.world) all at.invariant.played)

pub returns-clause-journal : goal.returns-clause-journal
returns-clause-journal c =
    let at = c.loop-step in
    let none = c.in-None.ensures.steps in
    let empty : into_iter_items at.step-iterator ≡ [] = nothing_left _ (sym at.invariant.len ∙ none.0) in
    let all = sym (append-nil at.yielded) ∙ rw empty at at.invariant.steps ∙ c.into_iter-step-iterator.ensures.into_iter_gives.0 in
    let old = c.args.world.now in
    all-journal (asked_by old.workers) c.args.steps.items old at.world at.replies.items (asked-knows old.workers)
    (subst (λ (l : List Step). Plays l old at.replies.items at.world) all at.invariant.played)
