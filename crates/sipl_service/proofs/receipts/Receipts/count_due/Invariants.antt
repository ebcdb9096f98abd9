use Rattle.std.proofs.Common.{◌<◌, ℕ, get_or}
use Rattle.sipl_service.specs.declared.receipt.Receipt.{Receipt}
use Rattle.sipl_service.proofs.receipts.Receipts.count_due.Given as goal

abbrev pub invariant-loop-place : goal.invariant-loop-place
invariant-loop-place l = (k : ℕ) (d : Receipt) → k < l.place → (get_or l.self-inside.queue.items k d).number < l.end
