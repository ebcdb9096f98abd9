use Rattle.std.proofs.Common.{◌≡◌, take, []}
use Rattle.sipl_service.specs.Receipts.{all_receipts}
use Rattle.sipl_service.proofs.ledger.Ledger.is_settled.Given as goal

abbrev pub invariant-loop-handed : goal.invariant-loop-handed
invariant-loop-handed l = all_receipts (take l.handed-index l.handed-items) ≡ []
