-- Filters one after another.
use Rattle.std.proofs.Common.{◌≡◌, Bool, true, false, not, ◌&&◌, ◌||◌, List, [], ◌∷◌, refl, ap, sym, ◌∙◌, inl, inr, arith}
use Rattle.std.specs.List.{filter, list_all, list_any, All, AllPairs}
use Rattle.std.proofs.lemmas.Bool.{cases_Bool}
use Rattle.std.proofs.lemmas.List.Elements.{filter_agree, filter_passes, All-filter}
use Rattle.std.proofs.lemmas.List.Kept.{AllPairs-filter}

pub filter-filter : {X : Type 0} (p q : X → Bool) (xs : List X) → filter p (filter q xs) ≡ filter (λ x. q x && p x) xs
filter-filter p q [] = refl
filter-filter p q (x ∷ xs) = elim (cases_Bool (q x)) [
  | inl holds ↦ rw holds (elim (cases_Bool (p x)) [ inl both ↦ rw both (ap (λ ys. x ∷ ys) (filter-filter p q xs)) | inr one ↦ rw one (filter-filter p q xs) ])
  | inr fails ↦ rw fails (filter-filter p q xs)
]

and_swapped : (a b : Bool) → (a && b) ≡ (b && a)
and_swapped true true = refl
and_swapped true false = refl
and_swapped false true = refl
and_swapped false false = refl

pub filter-swap : {X : Type 0} (p q : X → Bool) (xs : List X) → filter p (filter q xs) ≡ filter q (filter p xs)
filter-swap p q xs =
    filter-filter p q xs ∙ filter_agree (λ x. q x && p x) (λ x. p x && q x) (λ x. and_swapped (q x) (p x)) xs ∙ sym (filter-filter q p xs)

-- what passes the first test passes the second
pub filter-weaker : {X : Type 0} (p q : X → Bool) → ((x : X) → q x ≡ false → p x ≡ false) → (xs : List X) → filter p (filter q xs) ≡ filter p xs
filter-weaker p q weaker xs =
    filter-filter p q xs ∙ filter_agree (λ x. q x && p x) p (λ x. elim (cases_Bool (q x)) [ inl holds ↦ rw holds refl | inr fails ↦ rw fails (sym (weaker x fails)) ]) xs

pub filter-none : {X : Type 0} (p : X → Bool) → ((x : X) → p x ≡ false) → (xs : List X) → filter p xs ≡ []
filter-none p none [] = refl
filter-none p none (x ∷ xs) = rw (none x) (filter-none p none xs)

-- nothing passes a test and its opposite
pub filter-other : {X : Type 0} (p : X → Bool) (xs : List X) → filter p (filter (λ x. not (p x)) xs) ≡ []
filter-other p xs =
    filter-filter p (λ x. not (p x)) xs ∙ filter-none (λ x. not (p x) && p x) (λ x. elim (cases_Bool (p x)) [ inl holds ↦ rw holds refl | inr fails ↦ rw fails refl ]) xs

pub filter-all : {X : Type 0} (p : X → Bool) (xs : List X) → list_all p xs ≡ true → filter p xs ≡ xs
filter-all p [] all = refl
filter-all p (x ∷ xs) all = elim (cases_Bool (p x)) [
  | inl holds ↦ rw holds (ap (λ ys. x ∷ ys) (filter-all p xs (rw holds at all)))
  | inr fails ↦ let none : false ≡ true = rw fails at all in cc
]

-- a search that no value left out would pass
pub list_any-filter : {X : Type 0} (p q : X → Bool) → ((x : X) → q x ≡ false → p x ≡ false) → (xs : List X) → list_any p (filter q xs) ≡ list_any p xs
list_any-filter p q weaker [] = refl
list_any-filter p q weaker (x ∷ xs) = elim (cases_Bool (q x)) [
  | inl kept ↦ rw kept (ap (λ b. p x || b) (list_any-filter p q weaker xs))
  | inr out ↦ rw (out, weaker x out) (list_any-filter p q weaker xs)
]

-- what holds of each value holds, in another form, of those that pass
pub All-filter_weaker : {X : Type 0} (P Q : X → Type 0) (q : X → Bool) → ((x : X) → q x ≡ true → P x → Q x) → (xs : List X) → All P xs → All Q (filter q xs)
All-filter_weaker P Q q weaker xs all =
    let passes = filter_passes q xs in
    let kept = All-filter q P xs all in
    λ k d inside. weaker _ (passes k d inside) (kept k d inside)

pub AllPairs-filter_weaker : {X : Type 0} (R S : X → X → Type 0) (q : X → Bool) → ((x y : X) → q x ≡ true → q y ≡ true → R x y → S x y) → (xs : List X) → AllPairs R xs → AllPairs S (filter q xs)
AllPairs-filter_weaker R S q weaker xs all =
    let passes = filter_passes q xs in
    let kept = AllPairs-filter R q xs all in
    λ i j d below inside. weaker _ _ (passes i d (omega arith)) (passes j d inside) (kept i j d below inside)
