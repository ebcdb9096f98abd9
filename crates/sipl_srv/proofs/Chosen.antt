-- The place that a word chooses, whether the places of weight 0 come first or not.
use Rattle.std.proofs.Common.{◌≡◌, ℕ, ◌+◌, ◌%◌, ◌<◌, ◌≤◌, true, false, not, eqb, leb, List, [], ◌∷◌, ◌++◌, Option, Some, None, length, slice_get, option_map, refl, ap, sym, ◌∙◌, inl, inr, arith}
use Rattle.std.specs.Option.{is_some, IsSome}
use Rattle.std.proofs.lemmas.Bool.{cases_Bool, cases_lt, eqb-true, leb-false, le-leb, lt-leb}
use Rattle.std.proofs.lemmas.List.Sums.{sum_by-append, sum_by-cons}
use Rattle.std.proofs.lemmas.List.Filters.{sum_by-filter_both}
use Rattle.sipl_srv.specs.Order.{Rank, weight_at, weightless, weighted, weightless_first, of_priority, of_least_priority, total_weight, first_reaching, chosen_place}

-- the order of the places does not change the sum of their weights
pub total-weightless_first : (ranks : List Rank) (places : List ℕ) → total_weight ranks (weightless_first ranks places) ≡ total_weight ranks places
total-weightless_first ranks places =
    sum_by-append (weight_at ranks) (weightless ranks places) (weighted ranks places)
    ∙ sum_by-filter_both (λ i. eqb (weight_at ranks i) 0) (λ i. not (eqb (weight_at ranks i) 0)) (λ _. refl) (weight_at ranks) places

-- places of weight 0 do not reach a number above the sum so far
reaching-weightless : (ranks : List Rank) (number sum : ℕ) (places others : List ℕ) → sum < number
    → first_reaching ranks number sum (weightless ranks places ++ others) ≡ first_reaching ranks number sum others
reaching-weightless ranks number sum [] others above = refl
reaching-weightless ranks number sum (place ∷ places) others above = elim (cases_Bool (eqb (weight_at ranks place) 0)) [
  | inl free ↦
      let none : weight_at ranks place ≡ 0 = eqb-true (weight_at ranks place) 0 free in
      let same : sum + weight_at ranks place ≡ sum = omega arith in
      rw (free, lt-leb number (sum + weight_at ranks place) (omega arith), same) (reaching-weightless ranks number sum places others above)
  | inr heavy ↦ rw heavy (reaching-weightless ranks number sum places others above)
]

reaching-weighted : (ranks : List Rank) (number sum : ℕ) (places : List ℕ) → sum < number
    → first_reaching ranks number sum (weighted ranks places) ≡ first_reaching ranks number sum places
reaching-weighted ranks number sum [] above = refl
reaching-weighted ranks number sum (place ∷ places) above = elim (cases_Bool (eqb (weight_at ranks place) 0)) [
  | inl free ↦
      let none : weight_at ranks place ≡ 0 = eqb-true (weight_at ranks place) 0 free in
      let same : sum + weight_at ranks place ≡ sum = omega arith in
      rw (free, lt-leb number (sum + weight_at ranks place) (omega arith), same) (reaching-weighted ranks number sum places above)
  | inr heavy ↦ rw heavy (elim (cases_Bool (leb number (sum + weight_at ranks place))) [
    | inl reached ↦ rw reached refl
    | inr below ↦ rw below (reaching-weighted ranks number (sum + weight_at ranks place) places (leb-false number (sum + weight_at ranks place) below))
  ])
]

-- where no place has weight 0, all have another
weighted-all : (ranks : List Rank) (places : List ℕ) → slice_get (weightless ranks places) 0 ≡ None → weightless_first ranks places ≡ places
weighted-all ranks [] none = refl
weighted-all ranks (place ∷ places) none = elim (cases_Bool (eqb (weight_at ranks place) 0)) [
  | inl free ↦ let never : Some place ≡ None = rw free at none in cc
  | inr heavy ↦
      let rest : slice_get (weightless ranks places) 0 ≡ None = rw heavy at none in
      rw heavy (later ranks place places rest (weighted-all ranks places rest))
]
  where
    later : (ranks : List Rank) (place : ℕ) (places : List ℕ) → slice_get (weightless ranks places) 0 ≡ None → weightless_first ranks places ≡ places → weightless ranks places ++ (place ∷ weighted ranks places) ≡ place ∷ places
    later ranks place places none same = from (weightless ranks places) none same
      where
        from : (front : List ℕ) → slice_get front 0 ≡ None → front ++ weighted ranks places ≡ places → front ++ (place ∷ weighted ranks places) ≡ place ∷ places
        from [] empty e = ap (λ ps. place ∷ ps) e
        from (x ∷ front) empty e = let never : Some x ≡ None = empty in cc

-- the number 0 takes the first place of weight 0
pub reaching-zero : (ranks : List Rank) (places : List ℕ) (place : ℕ) → slice_get (weightless ranks places) 0 ≡ Some place → first_reaching ranks 0 0 (weightless_first ranks places) ≡ Some place
reaching-zero ranks places place = from (weightless ranks places)
  where
    from : (front : List ℕ) → slice_get front 0 ≡ Some place → first_reaching ranks 0 0 (front ++ weighted ranks places) ≡ Some place
    from [] never = let no : None ≡ Some place = never in cc
    from (x ∷ front) is = rw (le-leb 0 (0 + weight_at ranks x) (omega arith)) is

-- without a place of weight 0, or above 0, the order of the list serves
pub reaching-in_order : (ranks : List Rank) (number : ℕ) (places : List ℕ) → (number ≡ 0 → slice_get (weightless ranks places) 0 ≡ None)
    → first_reaching ranks number 0 (weightless_first ranks places) ≡ first_reaching ranks number 0 places
reaching-in_order ranks number places none = elim (cases_lt 0 number) [
  | inl above ↦ reaching-weightless ranks number 0 places (weighted ranks places) above ∙ reaching-weighted ranks number 0 places above
  | inr zero' ↦ ap (first_reaching ranks number 0) (weighted-all ranks places (none (omega arith)))
]

-- a number up to the total is reached
pub reaching-some : (ranks : List Rank) (number sum : ℕ) (places : List ℕ) → 0 < length places → number ≤ sum + total_weight ranks places → is_some (first_reaching ranks number sum places) ≡ true
reaching-some ranks number sum [] some' within = absurd (omega arith)
reaching-some ranks number sum (place ∷ []) some' within =
    let all : number ≤ sum + weight_at ranks place = omega (arith, sum_by-cons (weight_at ranks) place []) in
    rw (le-leb number (sum + weight_at ranks place) all) refl
reaching-some ranks number sum (place ∷ next ∷ places) some' within = elim (cases_Bool (leb number (sum + weight_at ranks place))) [
  | inl reached ↦ rw reached refl
  | inr below ↦ rw below (reaching-some ranks number (sum + weight_at ranks place) (next ∷ places) (omega arith) (omega (arith, sum_by-cons (weight_at ranks) place (next ∷ places))))
]

-- what a word chooses, by the priority and the total that the loops find
pub chosen_place-by_priority : (ranks : List Rank) (places : List ℕ) (word priority total : ℕ) → of_least_priority ranks places ≡ of_priority ranks priority places → total ≡ total_weight ranks (of_priority ranks priority places)
    → chosen_place ranks places word ≡ first_reaching ranks (word % (total + 1)) 0 (weightless_first ranks (of_priority ranks priority places))
chosen_place-by_priority ranks places word priority total least is =
    ap (λ ps. first_reaching ranks (word % (total_weight ranks (weightless_first ranks ps) + 1)) 0 (weightless_first ranks ps)) least
    ∙ ap (λ n. first_reaching ranks (word % (n + 1)) 0 (weightless_first ranks (of_priority ranks priority places))) (total-weightless_first ranks (of_priority ranks priority places) ∙ sym is)

-- what is found of a list that has it
pub some-from_map : (f : ℕ → ℕ) (found o : Option ℕ) → option_map f found ≡ o → is_some o ≡ true → IsSome found
some-from_map f None o is there = let never : false ≡ true = ap is_some is ∙ there in cc
some-from_map f (Some x) o is there = refl

pub none-from_map : (f : ℕ → ℕ) (found o : Option ℕ) → option_map f found ≡ o → found ≡ None → o ≡ None
none-from_map f found o is none = sym is ∙ ap (option_map f) none
