use Rattle.std.proofs.Common.{map, ap, ◌∙◌, arith}
use Rattle.std.specs.Borrow.{Bor}
use Rattle.sipl_book.specs.declared.event.Event.{Event}
use Rattle.sipl_service.specs.Passes.{receipts_of}
use Rattle.sipl_service.proofs.Gaps.{no_gap}
use Rattle.sipl_service.proofs.Joined.{joined-legal}
use Rattle.sipl_service.proofs.Claimed.{refutes, first-at, is_cause, is_unclaimed, is_union, claimed-all, claimed-in}
use Rattle.sipl_service.proofs.claims.claim.Goals as goal

pub returns-in-Some-clause-exact : goal.returns-in-Some-clause-exact
returns-in-Some-clause-exact c = λ ample order union. no_gap _ c.args.pages.now c.in-Some.place c.in-Some.ensures.gap order

pub returns-in-Err-clause-cause : goal.returns-in-Err-clause-cause
returns-in-Err-clause-cause c =
    is_cause c.args.pages.now c.first_number-first.result _ c.first_number-first.ensures.first
    (ap (map (λ (event : Bor Event). event.now)) c.deref.ensures.value ∙ c.in-Ok.ensures.events) _ _ _ c.receipt-item.result c.in-Err.fault
    c.in_default.ensures.none c.loop-receipt.invariant
    (first-at _ c.args.passes.now _ _ c.pass-item.result _ c.receipt-item.result c.loop-pass-test.true c.pass-item.is c.receipts-receipts.ensures c.loop-receipt-test.true c.receipt-item.is c.loop-receipt.invariant.part)
    c.in-Err.ensures.cause

pub returns-in-Err-clause-exact : goal.returns-in-Err-clause-exact
returns-in-Err-clause-exact c = λ ample. refutes _ _ c.in-Err.fault ample (returns-in-Err-clause-cause c)

pub loop-receipt-preserved : goal.loop-receipt-preserved
loop-receipt-preserved c =
    claimed-in c.args.pages.now c.first_number-first.result _ c.first_number-first.ensures.first
    (ap (map (λ (event : Bor Event). event.now)) c.deref.ensures.value ∙ c.in-Ok.ensures.events) _ _ _ _ _ c.receipt-item.result
    c.loop-receipt.invariant c.loop-receipt-test.true c.receipt-item.is c.in-Ok-claim_place.ensures.ours c.in-Ok-claim_place.ensures.free c.in-Ok-claim_place.ensures.places

pub returns-in-Some-first_free-clause-cause : goal.returns-in-Some-first_free-clause-cause
returns-in-Some-first_free-clause-cause c = (
  c.in_default.ensures.none,
  is_unclaimed c.args.pages.now (receipts_of c.args.passes.now) c.as_slice.result.now
      (claimed-all c.args.pages.now c.args.passes.now c.loop-pass.pass-index c.loop-pass.claimed.items c.as_slice.result.now c.as_slice.ensures.value (omega (arith, c.loop-pass-test.false)) c.loop-pass.invariant) c.first_number-first.result c.in-Some-first_free.place c.first_number-first.ensures.first
      c.in-Some-first_free.ensures.free.0 c.in-Some-first_free.ensures.free.1 c.in-Some-first_free.ensures.free.2,
)

pub returns-in-Some-first_free-clause-exact : goal.returns-in-Some-first_free-clause-exact
returns-in-Some-first_free-clause-exact c = λ ample. refutes _ _ _ ample (returns-in-Some-first_free-clause-cause c)

pub returns-clause-union : goal.returns-clause-union
returns-clause-union c = (
  c.in_default.ensures.none,
  is_union c.args.pages.now (receipts_of c.args.passes.now) c.as_slice.result.now
      (claimed-all c.args.pages.now c.args.passes.now c.loop-pass.pass-index c.loop-pass.claimed.items c.as_slice.result.now c.as_slice.ensures.value (omega (arith, c.loop-pass-test.false)) c.loop-pass.invariant) c.in-None.ensures.none,
)

pub returns-clause-legal : goal.returns-clause-legal
returns-clause-legal c = joined-legal c.args.pages.now c.in-Ok.ensures.pages c.in_default.ensures.none
