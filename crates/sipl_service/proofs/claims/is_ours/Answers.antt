use Rattle.std.proofs.Common.{arith}
use Rattle.sipl_service.proofs.Ours.{is_at}
use Rattle.sipl_service.proofs.claims.is_ours.Goals as goal

pub returns-clause-ours : goal.returns-clause-ours
returns-clause-ours c =
    is_at c.args.first c.args.events.now c.args.receipt.now.number c.index-events-receipt.result c.args.receipt.now.event c.eq.result
    (omega (arith, c.if-receipt-first.false)) (omega (arith, c.if-receipt-first-2.false)) c.index-events-receipt.is c.eq.ensures
