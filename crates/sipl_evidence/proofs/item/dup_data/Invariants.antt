use Rattle.std.proofs.Common.{◌≡◌, take}
use Rattle.sipl_evidence.proofs.item.dup_data.Given as goal

abbrev pub invariant-loop-datum : goal.invariant-loop-datum
invariant-loop-datum l = l.copy.items ≡ take l.datum-index l.values
