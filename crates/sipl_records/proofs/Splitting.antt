-- A text split at its first separator, by the index of that.
use Rattle.std.proofs.Common.{◌≡◌, ℕ, ◌<◌, suc, zero, true, false, List, [], ◌∷◌, length, None, Some, get_or, take, drop, refl, arith, nat_eq}
use Rattle.std.specs.List.{list_any}
use Rattle.std.proofs.lemmas.Bool.{false_from_ne_true}
use Rattle.memchr.specs.Find.{NoneBefore, Nowhere, Passes, is_byte}
use Rattle.sipl_records.specs.Parts.{split_once}

-- the octet at this index is the first separator
pub record IsFirstAt (s : ℕ) (text : List ℕ) (i : ℕ) : Type 0 where
  pub within : i < length text
  pub here : nat_eq (get_or text i 0) s ≡ true
  pub before : (k : ℕ) → k < i → nat_eq (get_or text k 0) s ≡ false

one_less : (s c : ℕ) (text : List ℕ) (i : ℕ) → IsFirstAt s (c ∷ text) (suc i) → IsFirstAt s text i
one_less s c text i at = record { within = omega (arith, at.within); here = at.here; before = λ k below. at.before (suc k) (omega arith) }

-- a text with its first separator at this index
pub split_once-Some : (s : ℕ) (text : List ℕ) (i : ℕ) → IsFirstAt s text i → split_once s text ≡ (take i text, Some (drop (suc i) text))
split_once-Some s [] i at = absurd (omega (arith, at.within))
split_once-Some s (c ∷ text) zero at = let here : nat_eq c s ≡ true = at.here in rw here refl
split_once-Some s (c ∷ text) (suc i) at =
    let other : nat_eq c s ≡ false = at.before 0 (omega arith) in
    rw (other, split_once-Some s text i (one_less s c text i at)) refl

-- the octets before it are not separators
pub list_any-take : (s : ℕ) (text : List ℕ) (i : ℕ) → IsFirstAt s text i → list_any (λ c. nat_eq c s) (take i text) ≡ false
list_any-take s [] i at = absurd (omega (arith, at.within))
list_any-take s (c ∷ text) zero at = refl
list_any-take s (c ∷ text) (suc i) at =
    let other : nat_eq c s ≡ false = at.before 0 (omega arith) in
    rw other (list_any-take s text i (one_less s c text i at))

-- a text without a separator
pub split_once-None : (s : ℕ) (text : List ℕ) → ((k : ℕ) → k < length text → nat_eq (get_or text k 0) s ≡ false) → split_once s text ≡ (text, None)
split_once-None s [] none = refl
split_once-None s (c ∷ text) none =
    let other : nat_eq c s ≡ false = none 0 (omega arith) in
    rw (other, split_once-None s text (λ k below. none (suc k) (omega arith))) refl

pub list_any-without : (s : ℕ) (text : List ℕ) → ((k : ℕ) → k < length text → nat_eq (get_or text k 0) s ≡ false) → list_any (λ c. nat_eq c s) text ≡ false
list_any-without s [] none = refl
list_any-without s (c ∷ text) none =
    let other : nat_eq c s ≡ false = none 0 (omega arith) in
    rw other (list_any-without s text (λ k below. none (suc k) (omega arith)))

-- what a search for the separator finds
pub IsFirstAt-found : (s : ℕ) (text : List ℕ) (i : ℕ) → NoneBefore (Passes (is_byte s) text) 0 (length text) i × Passes (is_byte s) text i → IsFirstAt s text i
IsFirstAt-found s text i found = record {
  within = found.0.high;
  here = found.1;
  before = λ k below. false_from_ne_true _ (found.0.before k (omega arith) below);
}

pub none_found : (s : ℕ) (text : List ℕ) → Nowhere (Passes (is_byte s) text) 0 (length text) → (k : ℕ) → k < length text → nat_eq (get_or text k 0) s ≡ false
none_found s text none k below = false_from_ne_true _ (none k (omega arith) below)
