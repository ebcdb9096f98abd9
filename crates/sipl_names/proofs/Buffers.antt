-- How many octets a buffer has after a step.
use Rattle.std.proofs.Common.{◌≡◌, ℕ, ◌+◌, [], ◌∷◌, ◌++◌, length, slice_set, ap, ◌∙◌, length-append}
use Rattle.std.proofs.Math.ListN.{length-set}
use Rattle.smallvec.specs.SmallVec.{SmallVec, small_vec_len}

pub small_vec_len-empty : (buffer : SmallVec ℕ) → buffer.items ≡ [] → small_vec_len buffer ≡ 0
small_vec_len-empty buffer is = ap length is

pub small_vec_len-push : (old new : SmallVec ℕ) (octet : ℕ) → new.items ≡ old.items ++ octet ∷ [] → small_vec_len new ≡ small_vec_len old + 1
small_vec_len-push old new octet is = ap length is ∙ length-append old.items (octet ∷ [])

pub small_vec_len-set : (old new : SmallVec ℕ) (at octet : ℕ) → new.items ≡ slice_set old.items at octet → small_vec_len new ≡ small_vec_len old
small_vec_len-set old new at octet is = ap length is ∙ length-set {A = ℕ} old.items at octet
