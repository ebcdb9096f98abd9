use Rattle.std.proofs.Common.{◌++◌, map, take, ap, subst, ◌∙◌}
use Rattle.std.specs.Borrow.{Bor}
use Rattle.sipl_book.specs.declared.event.Event.{Event}
use Rattle.sipl_service.specs.Receipts.{all_receipts, due}
use Rattle.sipl_service.proofs.Handed.{due_at, due_whole}
use Rattle.sipl_service.proofs.Claimed.{AreClaimed, is_unclaimed, is_union, claimed-in}
use Rattle.sipl_service.proofs.Waiting.{first-in, is_cause_after, claimed-all, claimed-handed, parted}
use Rattle.sipl_service.proofs.due.check.Goals as goal

pub returns-in-Err-clause-cause : goal.returns-in-Err-clause-cause
returns-in-Err-clause-cause c = λ _.
    let at = due_at _ c.count_due-count.result c.loop-place.place c.handed-item.result c.get.result.now c.count_due-count.ensures.due c.count_due-count.ensures.within c.loop-place-test.true c.get.ensures.receipt in
    is_cause_after c.args.pages.now c.first_number-first.result _ c.first_number-first.ensures.first
    (ap (map (λ (event : Bor Event). event.now)) c.deref.ensures.value ∙ c.in-Ok.ensures.events) c.args.next _ _ c.loop-place.claimed.items c.get.result.now c.in-Err.fault c.loop-place.invariant
    (first-in c.args.pages.now _ _ (due c.args.end c.handed-item.result) _ c.loop-place.place c.get.result.now
    (parted _ c.loop-handed.handed-index c.args.waiting.now c.handed-item.result c.loop-handed-test.true c.handed-item.is) at.0 at.1 c.loop-place.invariant.part)
    c.in-Err.ensures.cause

pub loop-place-preserved : goal.loop-place-preserved
loop-place-preserved c =
    let at = due_at _ c.count_due-count.result c.loop-place.place c.handed-item.result c.get.result.now c.count_due-count.ensures.due c.count_due-count.ensures.within c.loop-place-test.true c.get.ensures.receipt in
    claimed-in c.args.pages.now c.first_number-first.result _ c.first_number-first.ensures.first
    (ap (map (λ (event : Bor Event). event.now)) c.deref.ensures.value ∙ c.in-Ok.ensures.events) _ (due c.args.end c.handed-item.result) c.loop-place.claimed.items _ c.loop-place.place c.get.result.now
    c.loop-place.invariant at.0 at.1 c.in-Ok-claim_new_place.ensures.ours c.in-Ok-claim_new_place.ensures.free c.in-Ok-claim_new_place.ensures.places

pub loop-handed-preserved : goal.loop-handed-preserved
loop-handed-preserved c =
    claimed-handed c.args.pages.now c.args.end c.loop-handed.handed-index c.args.waiting.now c.handed-item.result c.loop-place.claimed.items c.loop-handed-test.true c.handed-item.is
    (subst (λ xs. AreClaimed c.args.pages.now (due c.args.end (all_receipts (take c.loop-handed.handed-index c.args.waiting.now)) ++ xs) c.loop-place.claimed.items)
    (due_whole _ c.count_due-count.result c.loop-place.place c.handed-item.result c.count_due-count.ensures.due c.loop-place-test.false) c.loop-place.invariant)

pub returns-in-Some-clause-cause : goal.returns-in-Some-clause-cause
returns-in-Some-clause-cause c = λ _.
    is_unclaimed c.args.pages.now _ c.as_slice.result.now
    (claimed-all c.args.pages.now c.args.end c.loop-handed.handed-index c.args.waiting.now c.loop-handed.claimed.items c.as_slice.result.now c.as_slice.ensures.value c.loop-handed-test.false c.loop-handed.invariant)
    c.first_number-first.result c.in-Some.place c.first_number-first.ensures.first c.in-Some.ensures.free.0 c.in-Some.ensures.free.1 c.in-Some.ensures.free.2

pub returns-clause-union : goal.returns-clause-union
returns-clause-union c =
    is_union c.args.pages.now _ c.as_slice.result.now
    (claimed-all c.args.pages.now c.args.end c.loop-handed.handed-index c.args.waiting.now c.loop-handed.claimed.items c.as_slice.result.now c.as_slice.ensures.value c.loop-handed-test.false c.loop-handed.invariant)
    c.in-None.ensures.none
