-- What the order of the places has: each place once, and by priority.
use Rattle.std.proofs.Common.{◌≡◌, ℕ, zero, suc, ◌+◌, ◌%◌, ◌<◌, ◌≤◌, Bool, true, false, not, eqb, leb, List, [], ◌∷◌, ◌++◌, Option, Some, None, length, get_or, replicate, refl, ap, sym, subst, ◌∙◌, inl, inr, arith}
use Rattle.std.specs.List.{All, AllPairs, Contains, list_all, remove, range_with_len}
use Rattle.std.specs.List.Sorted.{IsPermutation}
use Rattle.std.specs.Option.{is_some}
use Rattle.std.proofs.lemmas.Bool.{cases_Bool, cases_lt, le-leb, leb-true}
use Rattle.std.proofs.lemmas.List.{length-replicate, length-append, get_or_default}
use Rattle.std.proofs.lemmas.List.Edits.{length-remove}
use Rattle.std.proofs.lemmas.List.Elements.{All-nil, All-cons, All-head, All-tail, All-append, All-filter, All-weaker, All-contains_itself, All-contains, filter_passes}
use Rattle.std.proofs.lemmas.List.Filters.{length-filter_both}
use Rattle.std.proofs.lemmas.List.FromFn.{length-range_with_len}
use Rattle.std.proofs.lemmas.List.Kept.{AllPairs-cons}
use Rattle.std.proofs.lemmas.List.Sorted.{All-permutation, IsPermutation-refl, IsPermutation-cons, IsPermutation-trans, IsPermutation-remove}
use Rattle.std.proofs.lemmas.List.Sums.{list_all-from_AllPass, AllPass-from_list_all}
use Rattle.sipl_srv.specs.Order.{Rank, priority_at, weight_at, of_least_priority, weightless, weighted, candidates, total_weight, first_reaching, chosen_place, without, AreDistinct, order_of, ordered}
use Rattle.sipl_srv.proofs.Ranks.{some-filter}
use Rattle.sipl_srv.proofs.Chosen.{reaching-some}
use Rattle.sipl_srv.proofs.Places.{without-remove, AreDistinct-without, AreDistinct-range, All-range, order_of-nil, order_of-chosen_place}

-- the place that is reached is one of the places
reaching-All : (ranks : List Rank) (P : ℕ → Type 0) (number sum : ℕ) (places : List ℕ) (place : ℕ) → All P places → first_reaching ranks number sum places ≡ Some place → P place
reaching-All ranks P number sum [] place all is = let never : None ≡ Some place = is in cc
reaching-All ranks P number sum (x ∷ places) place all is = elim (cases_Bool (leb number (sum + weight_at ranks x))) [
  | inl reached ↦
      let here : Some x ≡ Some place = rw reached at is in
      let same : x ≡ place = cc in
      subst P same (All-head P x places all)
  | inr below ↦ reaching-All ranks P number (sum + weight_at ranks x) places place (All-tail P x places all) (rw below at is)
]

-- what holds of the places of least priority holds of the chosen one
chosen_place-All : (ranks : List Rank) (P : ℕ → Type 0) (places : List ℕ) (word place : ℕ) → All P (of_least_priority ranks places) → chosen_place ranks places word ≡ Some place → P place
chosen_place-All ranks P places word place all is =
    let least = of_least_priority ranks places in
    reaching-All ranks P (word % (total_weight ranks (candidates ranks places) + 1)) 0 (candidates ranks places) place
    (All-append P (weightless ranks least) (weighted ranks least)
    (All-filter (λ i. eqb (weight_at ranks i) 0) P least all) (All-filter (λ i. not (eqb (weight_at ranks i) 0)) P least all)) is

-- the chosen place is one of the places
pub chosen_place-Contains : (ranks : List Rank) (places : List ℕ) (word place : ℕ) → chosen_place ranks places word ≡ Some place → Contains places place
chosen_place-Contains ranks places word place is =
    chosen_place-All ranks (Contains places) places word place
    (All-filter (λ i. list_all (λ j. leb (priority_at ranks i) (priority_at ranks j)) places) (Contains places) places (All-contains_itself places)) is

-- no place has a lesser priority than the chosen one
pub chosen_place-least : (ranks : List Rank) (places : List ℕ) (word place : ℕ) → chosen_place ranks places word ≡ Some place → All (λ j. priority_at ranks place ≤ priority_at ranks j) places
chosen_place-least ranks places word place is =
    let test : ℕ → Bool = λ i. list_all (λ j. leb (priority_at ranks i) (priority_at ranks j)) places in
    let passes : test place ≡ true = chosen_place-All ranks (λ i. test i ≡ true) places word place (filter_passes test places) is in
    All-weaker (λ j. leb (priority_at ranks place) (priority_at ranks j) ≡ true) (λ j. priority_at ranks place ≤ priority_at ranks j)
    (λ j h. leb-true (priority_at ranks place) (priority_at ranks j) h) places
    (AllPass-from_list_all (λ j. leb (priority_at ranks place) (priority_at ranks j)) places passes)

-- a list has an element at which f is least
least_exists : (f : ℕ → ℕ) (xs : List ℕ) → 0 < length xs → (k : ℕ) × (k < length xs) × All (λ x. f (get_or xs k 0) ≤ f x) xs
least_exists f [] some' = absurd (omega arith)
least_exists f (x ∷ []) some' = (zero, omega arith, All-cons (λ y. f x ≤ f y) x [] (omega arith) (All-nil (λ y. f x ≤ f y)))
least_exists f (x ∷ y ∷ xs) some' =
    let rest = least_exists f (y ∷ xs) (omega arith) in
    let m = get_or (y ∷ xs) rest.0 0 in
    elim (cases_lt (f m) (f x)) [
      | inl less ↦ (suc rest.0, omega (arith, rest.1), All-cons (λ z. f m ≤ f z) x (y ∷ xs) (omega arith) rest.2)
      | inr more ↦ (
        zero,
        omega arith,
        All-cons (λ z. f x ≤ f z) x (y ∷ xs) (omega arith)
            (All-weaker (λ z. f m ≤ f z) (λ z. f x ≤ f z) (λ z h. omega arith) (y ∷ xs) rest.2),
      )
    ]

some-candidates : (ranks : List Rank) (places : List ℕ) → 0 < length places → 0 < length (candidates ranks places)
some-candidates ranks places some' =
    let least = of_least_priority ranks places in
    let at = least_exists (priority_at ranks) places some' in
    let first = get_or places at.0 0 in
    let passes = list_all-from_AllPass (λ j. leb (priority_at ranks first) (priority_at ranks j)) places
    (All-weaker (λ j. priority_at ranks first ≤ priority_at ranks j) (λ j. leb (priority_at ranks first) (priority_at ranks j) ≡ true) (λ j h. le-leb (priority_at ranks first) (priority_at ranks j) h) places at.2) in
    let there = some-filter (λ i. list_all (λ j. leb (priority_at ranks i) (priority_at ranks j)) places) places at.0 at.1 passes in
    omega (
      arith,
      there,
      length-append (weightless ranks least) (weighted ranks least),
      length-filter_both (λ i. eqb (weight_at ranks i) 0) (λ i. not (eqb (weight_at ranks i) 0)) (λ _. refl) least,
    )

-- where there are places, a word chooses one
pub chosen_place-some : (ranks : List Rank) (places : List ℕ) (word : ℕ) → 0 < length places → is_some (chosen_place ranks places word) ≡ true
chosen_place-some ranks places word some' =
    let total = total_weight ranks (candidates ranks places) in
    let within : word % (total + 1) ≤ 0 + total = omega arith in
    reaching-some ranks (word % (total + 1)) 0 (candidates ranks places) (some-candidates ranks places some') within

order_of-none : (ranks : List Rank) (places words : List ℕ) (word : ℕ) → chosen_place ranks places word ≡ None → order_of ranks places (word ∷ words) ≡ []
order_of-none ranks places words word is = rw (is, order_of) refl

-- what holds of all places holds of all in the order
order_of-All : (ranks : List Rank) (P : ℕ → Type 0) (places words : List ℕ) → All P places → All P (order_of ranks places words)
order_of-All ranks P places [] all = All-nil P
order_of-All ranks P places (word ∷ words) all = from (chosen_place ranks places word) refl (λ place. order_of-All ranks P (without place places) words (All-filter (λ i. not (eqb i place)) P places all))
  where
    from : (o : Option ℕ) → chosen_place ranks places word ≡ o → ((place : ℕ) → All P (order_of ranks (without place places) words)) → All P (order_of ranks places (word ∷ words))
    from None is later = subst (All P) (sym (order_of-none ranks places words word is)) (All-nil P)
    from (Some place) is later =
        let here : P place = All-contains P places place all (chosen_place-Contains ranks places word place is) in
        subst (All P) (sym (order_of-chosen_place ranks places words word place is)) (All-cons P place (order_of ranks (without place places) words) here (later place))

-- the order goes by priority
pub order_of-by_priority : (ranks : List Rank) (places words : List ℕ) → AllPairs (λ a b. priority_at ranks a ≤ priority_at ranks b) (order_of ranks places words)
order_of-by_priority ranks places [] = λ i j d below within. absurd (omega arith)
order_of-by_priority ranks places (word ∷ words) = from (chosen_place ranks places word) refl (λ place. order_of-by_priority ranks (without place places) words)
  where
    from : (o : Option ℕ) → chosen_place ranks places word ≡ o → ((place : ℕ) → AllPairs (λ a b. priority_at ranks a ≤ priority_at ranks b) (order_of ranks (without place places) words))
        → AllPairs (λ a b. priority_at ranks a ≤ priority_at ranks b) (order_of ranks places (word ∷ words))
    from None is later = subst (AllPairs (λ a b. priority_at ranks a ≤ priority_at ranks b)) (sym (order_of-none ranks places words word is)) (λ i j d below within. absurd (omega arith))
    from (Some place) is later =
        let least = chosen_place-least ranks places word place is in
        subst (AllPairs (λ a b. priority_at ranks a ≤ priority_at ranks b)) (sym (order_of-chosen_place ranks places words word place is))
        (AllPairs-cons (λ a b. priority_at ranks a ≤ priority_at ranks b) place (order_of ranks (without place places) words)
        (order_of-All ranks (λ j. priority_at ranks place ≤ priority_at ranks j) (without place places) words
        (All-filter (λ i. not (eqb i place)) (λ j. priority_at ranks place ≤ priority_at ranks j) places least)) (later place))

-- the order has each place once
pub order_of-IsPermutation : (ranks : List Rank) (places words : List ℕ) → AreDistinct places → length places ≤ length words → IsPermutation places (order_of ranks places words)
order_of-IsPermutation ranks [] words apart enough = subst (IsPermutation []) (sym (order_of-nil ranks words)) (IsPermutation-refl [])
order_of-IsPermutation ranks (x ∷ xs) [] apart enough = absurd (omega arith)
order_of-IsPermutation ranks (x ∷ xs) (word ∷ words) apart enough =
    from (chosen_place ranks (x ∷ xs) word) refl (λ place short. order_of-IsPermutation ranks (without place (x ∷ xs)) words (AreDistinct-without place (x ∷ xs) apart) short)
  where
    from : (o : Option ℕ) → chosen_place ranks (x ∷ xs) word ≡ o → ((place : ℕ) → length (without place (x ∷ xs)) ≤ length words → IsPermutation (without place (x ∷ xs)) (order_of ranks (without place (x ∷ xs)) words))
        → IsPermutation (x ∷ xs) (order_of ranks (x ∷ xs) (word ∷ words))
    from None is later = let never : true ≡ false = sym (chosen_place-some ranks (x ∷ xs) word (omega arith)) ∙ ap is_some is in cc
    from (Some place) is later =
        let at = chosen_place-Contains ranks (x ∷ xs) word place is in
        let here : get_or (x ∷ xs) at.0 0 ≡ place = get_or_default (x ∷ xs) at.0 0 place at.1 ∙ at.2 in
        let left : without place (x ∷ xs) ≡ remove (x ∷ xs) at.0 = subst (λ p. without p (x ∷ xs) ≡ remove (x ∷ xs) at.0) here (without-remove (x ∷ xs) at.0 at.1 apart) in
        let moved = IsPermutation-remove (x ∷ xs) at.0 place at.1 (sym at.2) in
        let short : length (without place (x ∷ xs)) ≤ length words = omega (arith, ap length left, length-remove (x ∷ xs) at.0 at.1) in
        subst (IsPermutation (x ∷ xs)) (sym (order_of-chosen_place ranks (x ∷ xs) words word place is))
        (IsPermutation-trans (x ∷ xs) (place ∷ without place (x ∷ xs)) (place ∷ order_of ranks (without place (x ∷ xs)) words)
        (subst (λ ps. IsPermutation (x ∷ xs) (place ∷ ps)) (sym left) moved)
        (IsPermutation-cons place (without place (x ∷ xs)) (order_of ranks (without place (x ∷ xs)) words) (later place short)))

pub ordered-IsPermutation : (ranks : List Rank) (words : List ℕ) → IsPermutation (range_with_len 0 (length ranks)) (ordered ranks words)
ordered-IsPermutation ranks words =
    order_of-IsPermutation ranks (range_with_len 0 (length ranks)) (words ++ replicate (length ranks) 0) (AreDistinct-range (length ranks))
    (omega (arith, length-range_with_len 0 (length ranks), length-append words (replicate (length ranks) 0), length-replicate {A = ℕ} (length ranks) 0))

pub ordered-by_priority : (ranks : List Rank) (words : List ℕ) → AllPairs (λ a b. priority_at ranks a ≤ priority_at ranks b) (ordered ranks words)
ordered-by_priority ranks words = order_of-by_priority ranks (range_with_len 0 (length ranks)) (words ++ replicate (length ranks) 0)

-- each place in the order is one of the list
pub All-ordered : (ranks : List Rank) (words : List ℕ) → All (λ place. place < length ranks) (ordered ranks words)
All-ordered ranks words =
    All-permutation (λ place. place < length ranks) (range_with_len 0 (length ranks)) (ordered ranks words) (ordered-IsPermutation ranks words) (All-range (length ranks))
