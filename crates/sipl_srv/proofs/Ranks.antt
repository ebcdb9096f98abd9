-- The ranks of a list of picks, and the places of least priority.
use Rattle.std.proofs.Common.{◌≡◌, ℕ, zero, suc, ◌+◌, min, ◌<◌, ◌≤◌, Bool, true, eqb, leb, List, [], ◌∷◌, length, get_or, map, refl, ap, sym, ◌∙◌, inl, inr, arith, below_more}
use Rattle.std.specs.List.{All, filter, list_all}
use Rattle.std.proofs.lemmas.Bool.{cases_Bool, cases_eq, cases_lt, eq-eqb, ne_eqb, le-leb, lt-leb}
use Rattle.std.proofs.lemmas.List.{get_or-map}
use Rattle.std.proofs.lemmas.List.Elements.{All-head, All-tail}
use Rattle.std.proofs.lemmas.List.Folds.{list_all_at}
use Rattle.std.proofs.lemmas.List.Sums.{list_all-from_AllPass}
use Rattle.sipl_srv.specs.Order.{Rank, rank_at}

-- the rank at a place is that of the element there
pub rank_at-map : {X : Type 0} (rank : X → Rank) (xs : List X) (place : ℕ) (x : X) → place < length xs → x ≡ get_or xs place x → rank_at (map rank xs) place ≡ rank x
rank_at-map rank xs place x within is =
    get_or-map rank xs place x (record { priority = 0; weight = 0 }) within ∙ ap rank (sym is)

-- tests that agree at each element keep the same elements
pub filter_agree_at : {X : Type 0} (p q : X → Bool) (xs : List X) → All (λ x. p x ≡ q x) xs → filter p xs ≡ filter q xs
filter_agree_at p q [] same = refl
filter_agree_at p q (x ∷ xs) same =
    let rest = filter_agree_at p q xs (All-tail (λ y. p y ≡ q y) x xs same) in
    let here : p x ≡ q x = All-head (λ y. p y ≡ q y) x xs same in
    elim (cases_Bool (q x)) [
      | inl holds ↦ rw (here, holds) (ap (λ ys. x ∷ ys) rest)
      | inr fails ↦ rw (here, fails) rest
    ]

-- the elements at which f is least are those at which it is the least number
pub filter_least : (f : ℕ → ℕ) (xs : List ℕ) (least : ℕ) → All (λ x. least ≤ f x) xs → (k : ℕ) → k < length xs → f (get_or xs k 0) ≡ least
    → filter (λ x. list_all (λ y. leb (f x) (f y)) xs) xs ≡ filter (λ x. eqb (f x) least) xs
filter_least f xs least below k within attained =
    filter_agree_at (λ x. list_all (λ y. leb (f x) (f y)) xs) (λ x. eqb (f x) least) xs
    (λ i d inside. at_least (get_or xs i d) (below i d inside))
  where
    at_least : (x : ℕ) → least ≤ f x → list_all (λ y. leb (f x) (f y)) xs ≡ eqb (f x) least
    at_least x le = elim (cases_eq (f x) least) [
      | inl same ↦
          list_all-from_AllPass (λ y. leb (f x) (f y)) xs (λ i d inside. le-leb (f x) (f (get_or xs i d)) (omega (arith, below i d inside)))
          ∙ sym (eq-eqb (f x) least same)
      | inr other ↦
          list_all_at (λ y. leb (f x) (f y)) xs k 0 within (lt-leb (f x) (f (get_or xs k 0)) (omega arith))
          ∙ sym (ne_eqb (f x) least other)
    ]

-- where f is the number at an element, the filter keeps one
pub some-filter : (p : ℕ → Bool) (xs : List ℕ) (k : ℕ) → k < length xs → p (get_or xs k 0) ≡ true → 0 < length (filter p xs)
some-filter p [] k within passes = absurd (omega arith)
some-filter p (x ∷ xs) zero within passes = rw passes (omega arith)
some-filter p (x ∷ xs) (suc k) within passes = elim (cases_Bool (p x)) [
  | inl holds ↦ rw holds (omega arith)
  | inr fails ↦ rw fails (some-filter p xs k (omega arith) passes)
]

-- one more element, and the lesser of the least so far and its number
pub least_below : (f : ℕ → ℕ) (xs : List ℕ) (i number least least' : ℕ) → f (get_or xs i 0) ≡ number → least' ≡ min least number
    → ((k : ℕ) → k < i → least ≤ f (get_or xs k 0)) → (k : ℕ) → k < i + 1 → least' ≤ f (get_or xs k 0)
least_below f xs i number least least' here is below =
    below_more (λ k. least' ≤ f (get_or xs k 0)) i (λ k h. omega (arith, below k h)) (omega arith)

pub least_attained : (f : ℕ → ℕ) (xs : List ℕ) (i number least least' : ℕ) → i < length xs → f (get_or xs i 0) ≡ number → least' ≡ min least number
    → (k : ℕ) × (k < length xs) × (f (get_or xs k 0) ≡ least) → (k : ℕ) × (k < length xs) × (f (get_or xs k 0) ≡ least')
least_attained f xs i number least least' within here is at = elim (cases_lt number least) [
  | inl less ↦ (i, within, omega arith)
  | inr more ↦ (at.0, at.1, omega (arith, at.2))
]
