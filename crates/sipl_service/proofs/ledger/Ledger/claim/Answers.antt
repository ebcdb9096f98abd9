use Rattle.std.proofs.Common.{ap, subst}
use Rattle.sipl_service.specs.Ledgers.{FollowsLast}
use Rattle.sipl_service.specs.Receipts.{all_receipts}
use Rattle.sipl_service.proofs.Refused.{not_accepted, refused-at}
use Rattle.sipl_service.proofs.ledger.Ledger.claim.Goals as goal

pub returns-in-Err-clause-exact : goal.returns-in-Err-clause-exact
returns-in-Err-clause-exact c = λ ample.
    not_accepted c.args.self.now c.args.page.now c.in-Err.fault
    (refused-at c.args.self.now c.args.page.now c.from_ref.result.now c.self.inside.last (all_receipts c.self.inside.waiting.items) (all_receipts c.as_slice.result.now) c.next-2.result
    c.self.view_is c.from_ref.ensures.value (ap all_receipts c.as_slice.ensures.value) c.next-2.ensures.next
    (subst (λ o. FollowsLast o c.args.page.now) c.as_ref.ensures.value (c.follows.ensures.0 c.if-not-follows.false))
    c.next.result c.in-Err.fault c.next.ensures c.in-Err.ensures.cause)
    ample
