-- Entries whose evidence may have changed keys.
use Rattle.std.proofs.Common.{◌≡◌, ℕ, suc, ◌+◌, Bool, true, false, not, cond, ltb, List, [], ◌∷◌, length, map, position, None, Some, is_some, refl, sym, ◌∙◌, inl, inr, arith}
use Rattle.std.specs.List.{list_all, list_any, position_or_len, zip}
use Rattle.std.proofs.lemmas.Bool.{and_parts, cases_Bool, lt-ltb}
use Rattle.std.proofs.lemmas.Bool.Decides.{nat_tests}
use Rattle.sipl_records.specs.declared.record.Key.{Key}
use Rattle.sipl_records.specs.Sets.{same_key}
use Rattle.sipl_evidence.specs.Items.{Item}
use Rattle.sipl_evidence.specs.Known.{known, is_unknown}
use Rattle.sipl_evidence.specs.Places.{place_of}
use Rattle.sipl_records.proofs.Public.{same_key-Decides}

-- a list has a place that passes a test exactly where an element does
place-before : {X : Type 0} (p : X → Bool) (xs : List X) → ltb (position_or_len p xs) (length xs) ≡ list_any p xs
place-before p [] = refl
place-before p (x ∷ xs) = elim (cases_Bool (p x)) [
  | inl here ↦ rw here (lt-ltb 0 (length (x ∷ xs)) (omega arith))
  | inr later ↦ rw later (step (position_or_len p xs) (length xs) ∙ place-before p xs)
] where
  step : (m n : ℕ) → ltb (1 + m) (suc n) ≡ ltb m n
  step m n = grind (arith, nat_tests)

is_some-position : {X : Type 0} (p : X → Bool) (xs : List X) → is_some (position p xs) ≡ list_any p xs
is_some-position p xs =
    at (ltb (position_or_len p xs) (length xs)) ∙ place-before p xs where
      at : (b : Bool) → is_some (cond b (Some (position_or_len p xs)) None) ≡ b
      at true = refl
      at false = refl

pub is_some-known : (items : List Item) (k : Key) → is_some (known items k) ≡ list_any (λ item. same_key item.key k) items
is_some-known [] k = refl
is_some-known (item ∷ items) k = elim (cases_Bool (same_key item.key k)) [
  | inl same ↦ rw same refl
  | inr other ↦ rw other (is_some-known items k)
]

not_not : (b : Bool) → not (not b) ≡ b
not_not true = refl
not_not false = refl

-- a key has a place exactly where its set is known
pub is_some-place_of : (items : List Item) (k : Key) → is_some (place_of items k) ≡ not (is_unknown items k)
is_some-place_of items k =
    is_some-position (λ item. same_key item.key k) items ∙ sym (is_some-known items k) ∙ sym (not_not (is_some (known items k)))

-- items of the same keys, in the same order
pub same_keys : (items others : List Item) → length items ≡ length others → list_all (λ (p : Item × Item). same_key p.0.key p.1.key) (zip items others) ≡ true
    → map (λ (i : Item). i.key) items ≡ map (λ (i : Item). i.key) others
same_keys [] [] len all = refl
same_keys [] (y ∷ others) len all = absurd (omega (arith, len))
same_keys (x ∷ items) [] len all = absurd (omega (arith, len))
same_keys (x ∷ items) (y ∷ others) len all =
    let parts = and_parts (same_key x.key y.key) (list_all (λ (p : Item × Item). same_key p.0.key p.1.key) (zip items others)) all in
    λ i. (same_key-Decides x.key y.key).0 parts.0 i ∷ same_keys items others (omega (arith, len)) parts.1 i
