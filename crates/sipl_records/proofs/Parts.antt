-- The parts of a text, by its split at the first separator.
use Rattle.std.proofs.Common.{◌≡◌, ℕ, ◌≤◌, List, [], ◌∷◌, ◌++◌, Option, None, Some, length, refl, ap, sym, ◌∙◌, arith, nat_eq, inl, inr}
use Rattle.std.specs.List.{slice_split, onto_first}
use Rattle.std.proofs.lemmas.Bool.{cases_Bool, eqb-true}
use Rattle.sipl_records.specs.Parts.{parts, prepend_to_first, split_once}

-- the parts after the first
parts_after : ℕ → Option (List ℕ) → List (List ℕ)
parts_after s None = []
parts_after s (Some rest) = parts s rest

parts-split : (s : ℕ) (text : List ℕ) → parts s text ≡ (split_once s text).0 ∷ parts_after s (split_once s text).1
unfolding parts_after
parts-split s [] = refl
parts-split s (c ∷ text) = elim (cases_Bool (nat_eq c s)) [
  | inl here ↦ rw here refl
  | inr other ↦ rw other (ap (prepend_to_first c) (parts-split s text))
]

pub parts-Some : (s : ℕ) (text rest : List ℕ) → (split_once s text).1 ≡ Some rest → parts s text ≡ (split_once s text).0 ∷ parts s rest
unfolding parts_after
parts-Some s text rest found = parts-split s text ∙ ap (λ after. (split_once s text).0 ∷ parts_after s after) found

-- the text of the two parts
joined : ℕ → List ℕ → Option (List ℕ) → List ℕ
joined s before None = before
joined s before (Some rest) = before ++ s ∷ rest

joined-cons : (s c : ℕ) (before : List ℕ) (after : Option (List ℕ)) → joined s (c ∷ before) after ≡ c ∷ joined s before after
unfolding joined
joined-cons s c before None = refl
joined-cons s c before (Some rest) = refl

joined-split : (s : ℕ) (text : List ℕ) → text ≡ joined s (split_once s text).0 (split_once s text).1
unfolding joined
joined-split s [] = refl
joined-split s (c ∷ text) = elim (cases_Bool (nat_eq c s)) [
  | inl here ↦ rw here (ap (λ d. d ∷ text) (eqb-true c s here))
  | inr other ↦ rw other (ap (λ rest. c ∷ rest) (joined-split s text) ∙ sym (joined-cons s c (split_once s text).0 (split_once s text).1))
]

-- a text is what is before its first separator, the separator, and the rest
pub split_once-whole : (s : ℕ) (text rest : List ℕ) → (split_once s text).1 ≡ Some rest → text ≡ (split_once s text).0 ++ s ∷ rest
unfolding joined
split_once-whole s text rest found = joined-split s text ∙ ap (joined s (split_once s text).0) found

-- a text without a separator is one part
pub parts-None : (s : ℕ) (text : List ℕ) → (split_once s text).1 ≡ None → parts s text ≡ text ∷ []
unfolding joined parts_after
parts-None s text none =
    parts-split s text ∙ ap (λ after. (split_once s text).0 ∷ parts_after s after) none ∙ ap (λ part. part ∷ []) (sym (joined-split s text ∙ ap (joined s (split_once s text).0) none))

-- a text has a part, even an empty one
pub length-parts : (s : ℕ) (text : List ℕ) → 1 ≤ length (parts s text)
length-parts s text = rw (parts-split s text) (omega arith)

prepend-is : (c : ℕ) (ps : List (List ℕ)) → prepend_to_first c ps ≡ onto_first c ps
prepend-is c [] = refl
prepend-is c (part ∷ ps) = refl

-- in the words of std
pub parts-slice_split : (s : ℕ) (text : List ℕ) → parts s text ≡ slice_split (λ c. nat_eq c s) text
parts-slice_split s [] = refl
parts-slice_split s (c ∷ text) = elim (cases_Bool (nat_eq c s)) [
  | inl here ↦ rw here (ap (λ ps. [] ∷ ps) (parts-slice_split s text))
  | inr other ↦ rw other (prepend-is c (parts s text) ∙ ap (onto_first c) (parts-slice_split s text))
]
