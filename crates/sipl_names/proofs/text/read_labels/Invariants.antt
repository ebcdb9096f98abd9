use Rattle.std.proofs.Common.{◌+◌, ◌≤◌, length}
use Rattle.smallvec.specs.SmallVec.{small_vec_len}
use Rattle.sipl_names.proofs.ReadText.{IsReadTo}
use Rattle.sipl_names.proofs.text.read_labels.Given as goal

abbrev pub invariant-loop-token : goal.invariant-loop-token
invariant-loop-token l = record {
  read : IsReadTo l.text l.rest l.wire.items l.start;
  reserved : small_vec_len l.wire + length l.rest ≤ l.wire.capacity;
}

abbrev pub decreases-loop-token : goal.decreases-loop-token
decreases-loop-token l = length l.rest
