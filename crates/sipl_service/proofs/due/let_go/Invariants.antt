use Rattle.std.proofs.Common.{◌≡◌, ◌++◌, map, take, drop}
use Rattle.sipl_service.specs.Receipts.{later}
use Rattle.sipl_service.proofs.due.let_go.Given as goal

abbrev pub invariant-loop-place : goal.invariant-loop-place
invariant-loop-place l = l.waiting.items ≡ map (later l.end) (take l.place l.initial.waiting.items) ++ drop l.place l.initial.waiting.items
