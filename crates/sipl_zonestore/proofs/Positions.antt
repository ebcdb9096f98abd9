-- The first place of a key, counted from a number.
use Rattle.std.proofs.Common.{◌≡◌, ℕ, ◌+◌, ◌<◌, ◌≤◌, Bool, true, false, List, [], ◌∷◌, ◌++◌, length, None, Some, if◌then◌else◌, refl, ap, sym, ◌∙◌, inl, inr, arith}
use Rattle.std.specs.List.{list_any, position_from}
use Rattle.std.specs.Option.{option_or}
use Rattle.std.proofs.lemmas.Bool.{cases_Bool}
use Rattle.sipl_records.specs.declared.record.Key.{Key}
use Rattle.sipl_records.specs.Sets.{same_key}
use Rattle.sipl_records.proofs.Public.{same_key-Decides}
use Rattle.sipl_zonestore.proofs.Elements.{or_left, or_right}

pub from-le : {X : Type 0} (p : X → Bool) (i n : ℕ) (xs : List X) → position_from p i xs ≡ Some n → i ≤ n
from-le p i n [] found = cc
from-le p i n (x ∷ xs) found = elim (cases_Bool (p x)) [
  | inl here ↦ let first : Some i ≡ Some n = rw here at found in let same : i ≡ n = cc in omega arith
  | inr other ↦ let later : i + 1 ≤ n = from-le p (i + 1) n xs (rw other at found) in omega arith
]

pub from-lt : {X : Type 0} (p : X → Bool) (i n : ℕ) (xs : List X) → position_from p i xs ≡ Some n → n < i + length xs
from-lt p i n [] found = cc
from-lt p i n (x ∷ xs) found = elim (cases_Bool (p x)) [
  | inl here ↦ let first : Some i ≡ Some n = rw here at found in let same : i ≡ n = cc in omega arith
  | inr other ↦ let later : n < i + 1 + length xs = from-lt p (i + 1) n xs (rw other at found) in omega arith
]

pub from-none : {X : Type 0} (p : X → Bool) (i : ℕ) (xs : List X) → list_any p xs ≡ false → position_from p i xs ≡ None
from-none p i [] none = refl
from-none p i (x ∷ xs) none = rw (or_left (p x) (list_any p xs) none) (from-none p (i + 1) xs (or_right (p x) (list_any p xs) none))

pub from-some : {X : Type 0} (p : X → Bool) (i : ℕ) (xs : List X) → list_any p xs ≡ true → (n : ℕ) × (position_from p i xs ≡ Some n)
from-some p i [] some = cc
from-some p i (x ∷ xs) some = elim (cases_Bool (p x)) [
  | inl here ↦ (i, rw here refl)
  | inr other ↦ let later : (n : ℕ) × (position_from p (i + 1) xs ≡ Some n) = from-some p (i + 1) xs (rw other at some) in (later.0, rw other later.1)
]

-- one more element
pub from-append : {X : Type 0} (p : X → Bool) (i : ℕ) (xs : List X) (y : X) → position_from p i (xs ++ y ∷ []) ≡ option_or (position_from p i xs) (if p y then Some (i + length xs) else None)
from-append p i [] y = elim (cases_Bool (p y)) [
  | inl here ↦ rw here (ap (λ n. Some n) (omega arith))
  | inr other ↦ rw other refl
]
from-append p i (x ∷ xs) y = elim (cases_Bool (p x)) [
  | inl here ↦ rw here refl
  | inr other ↦ rw other (from-append p (i + 1) xs y ∙ ap (λ n. option_or (position_from p (i + 1) xs) (if p y then Some n else None)) (omega arith))
]

-- one place has one key
pub from-same : (i n : ℕ) (keys : List Key) (a b : Key) → position_from (λ other. same_key other a) i keys ≡ Some n → position_from (λ other. same_key other b) i keys ≡ Some n → same_key a b ≡ true
from-same i n [] a b found found' = cc
from-same i n (key ∷ keys) a b found found' = elim (cases_Bool (same_key key a)) [
  | inl here ↦
      let first : Some i ≡ Some n = rw here at found in
      let same : i ≡ n = cc in
      elim (cases_Bool (same_key key b)) [
        | inl here' ↦ (same_key-Decides a b).1 (sym ((same_key-Decides key a).0 here) ∙ (same_key-Decides key b).0 here')
        | inr other' ↦ let later : i + 1 ≤ n = from-le (λ other. same_key other b) (i + 1) n keys (rw other' at found') in absurd (omega arith)
      ]
  | inr other ↦ elim (cases_Bool (same_key key b)) [
    | inl here' ↦
        let first : Some i ≡ Some n = rw here' at found' in
        let same : i ≡ n = cc in
        let later : i + 1 ≤ n = from-le (λ other. same_key other a) (i + 1) n keys (rw other at found) in
        absurd (omega arith)
    | inr other' ↦ from-same (i + 1) n keys a b (rw other at found) (rw other' at found')
  ]
]
