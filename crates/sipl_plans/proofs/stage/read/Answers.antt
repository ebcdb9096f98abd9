use Rattle.std.proofs.Common.{◌≡◌, Some, sym, ap, subst, ◌∙◌}
use Rattle.sipl_evidence.specs.Known.{advance, first_unknown, known_result}
use Rattle.sipl_evidence.specs.Walks.{IsReached, walk_asking}
use Rattle.sipl_plans.specs.Stages.{follows, reading, step_asking}
use Rattle.sipl_plans.proofs.Advancing.{advance-onward, advance-result, first_unknown-alike, first_unknown-and_then, known_count-walk}
use Rattle.sipl_plans.proofs.stage.read.Goals as goal

pub returns-in-Wanting : goal.returns-in-Wanting
returns-in-Wanting c =
    let items = c.args.evidence.now in
    let domain = c.args.domain in
    let next = follows domain c.loop-purpose.purpose in
    let walk = walk_asking c.loop-purpose.walk in
    let wanted : first_unknown items walk ≡ Some c.in-Wanting.key = subst (IsReached items walk) c.in-Wanting.is c.in_ok-set.ensures.reached in (
      first_unknown-alike items _ _ (sym c.loop-purpose.invariant) ∙ first_unknown-and_then items next walk c.in-Wanting.key wanted,
      advance-onward items next (walk_asking c.advance.new.self) walk c.in_ok-set.ensures.same ∙ c.loop-purpose.invariant,
    )

pub returns-in-Done : goal.returns-in-Done
returns-in-Done c =
    let items = c.args.evidence.now in
    let domain = c.args.domain in
    let next = follows domain c.loop-purpose.purpose in
    let walk = walk_asking c.loop-purpose.walk in
    let known : known_result items walk ≡ Some c.in-Answer.set.now = subst (IsReached items walk) c.in-Answer.is c.in_ok-set.ensures.reached in
    sym c.loop-purpose.invariant
    ∙ advance-result items next walk c.in-Answer.set.now known
    ∙ ap (advance items) (sym c.in_ok-layout.ensures ∙ ap (step_asking domain) c.in-Done.is)

pub loop-purpose-smaller : goal.loop-purpose-smaller
loop-purpose-smaller c =
    let items = c.args.evidence.now in
    let domain = c.args.domain in
    let known : known_result items (walk_asking c.loop-purpose.walk) ≡ Some c.in-Answer.set.now = subst (IsReached items (walk_asking c.loop-purpose.walk)) c.in-Answer.is c.in_ok-set.ensures.reached in
    known_count-walk items (walk_asking c.loop-purpose.walk) (follows domain c.loop-purpose.purpose) c.in-Answer.set.now (reading domain c.in-Reading.next_walk c.in-Reading.next_purpose) c.in_ok-set.ensures.asks known
    (ap (step_asking domain) (sym c.in-Reading.is) ∙ c.in_ok-layout.ensures)

pub loop-purpose-preserved : goal.loop-purpose-preserved
loop-purpose-preserved c =
    let items = c.args.evidence.now in
    let domain = c.args.domain in
    let next = follows domain c.loop-purpose.purpose in
    let walk = walk_asking c.loop-purpose.walk in
    let known : known_result items walk ≡ Some c.in-Answer.set.now = subst (IsReached items walk) c.in-Answer.is c.in_ok-set.ensures.reached in
    ap (advance items) (ap (step_asking domain) (sym c.in-Reading.is) ∙ c.in_ok-layout.ensures)
    ∙ sym (advance-result items next walk c.in-Answer.set.now known)
    ∙ c.loop-purpose.invariant
