use Rattle.std.proofs.Common.{◌≡◌, take}
use Rattle.sipl_evidence.proofs.evidence.Evidence.dup.Given as goal

abbrev pub invariant-loop-item : goal.invariant-loop-item
invariant-loop-item l = l.copy ≡ take l.item-index l.item-items
