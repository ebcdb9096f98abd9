use Rattle.std.proofs.Common.{◌≡◌, drop}
use Rattle.sipl_service.proofs.receipts.Receipts.let_go.Given as goal

abbrev pub invariant-loop-gone : goal.invariant-loop-gone
invariant-loop-gone l = l.self-inside.queue.items ≡ drop l._gone l.initial.self-inside.queue.items
