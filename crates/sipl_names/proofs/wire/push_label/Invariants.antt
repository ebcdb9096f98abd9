use Rattle.std.proofs.Common.{◌≡◌, ◌+◌, ◌∷◌, ◌++◌, length, take}
use Rattle.std.specs.Str.{str_to_ascii_lowercase}
use Rattle.smallvec.specs.SmallVec.{small_vec_len}
use Rattle.sipl_names.proofs.wire.push_label.Given as goal

abbrev pub invariant-loop-octet : goal.invariant-loop-octet
invariant-loop-octet l = record {
  wire : l.wire.items ≡ l.fn.wire.items ++ length l.label ∷ str_to_ascii_lowercase (take l.octet-index l.label);
  len : small_vec_len l.wire ≡ small_vec_len l.fn.wire + 1 + l.octet-index;
  capacity : l.wire.capacity ≡ l.fn.wire.capacity;
}
