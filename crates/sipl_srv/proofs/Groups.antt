-- The first place of a priority in the order.
use Rattle.std.proofs.Common.{◌≡◌, ℕ, zero, suc, ◌+◌, ◌<◌, ◌≤◌, Bool, true, false, not, cond, eqb, leb, ltb, List, [], ◌∷◌, ◌++◌, Option, Some, None, slice_get, length, get_or, set, replicate, refl, ap, sym, subst, ◌∙◌, inl, inr, arith, get_or-set_same, zero-add}
use Rattle.std.specs.List.{All, Contains, count_by, filter, list_any, range_with_len, remove}
use Rattle.std.specs.Option.{is_some}
use Rattle.std.proofs.lemmas.Bool.{both_ways, leb-true, leb-false, cases_Bool, cases_lt, eq-eqb, ne_eqb, eqb-true, le-leb, lt-leb, lt-ltb, le-ltb}
use Rattle.std.proofs.lemmas.List.{get_or_default, get_or_append_left, length-append, length-set}
use Rattle.std.proofs.lemmas.List.Folds.{list_any_at}
use Rattle.std.proofs.lemmas.List.Kept.{AllPairs-filter}
use Rattle.std.proofs.lemmas.List.Edits.{length-remove}
use Rattle.std.proofs.lemmas.List.Elements.{All-head, All-tail, All-weaker, All-contains, filter_passes}
use Rattle.std.proofs.lemmas.List.FromFn.{length-range_with_len, get_or-range_with_len}
use Rattle.std.proofs.lemmas.List.Sums.{sum_by-cons, sum_by-remove, count_by-le-length, list_all-from_AllPass}
use Rattle.sipl_records.proofs.Public.{filter-weaker, filter-all, list_any-filter}
use Rattle.sipl_srv.specs.Order.{Rank, all_places, priority_at, weight_at, of_priority, of_least_priority, weightless_first, total_weight, chosen_place, without, AreDistinct, order_of}
use Rattle.sipl_srv.specs.Shares.{is_place, group_of, first_of_priority, words_before}
use Rattle.sipl_srv.proofs.Ranks.{filter_least}
use Rattle.sipl_srv.proofs.Places.{without-remove, AreDistinct-without, AreDistinct-range, order_of-chosen_place}
use Rattle.sipl_srv.proofs.Orders.{chosen_place-Contains, chosen_place-least, chosen_place-some}
use Rattle.sipl_srv.proofs.Shares.{share-least, count-same}

not_false : (b : Bool) → not b ≡ false → b ≡ true
not_false true e = refl
not_false false e = sym e

-- the places of a priority or a greater one, and how many have a lesser one
abbrev not_before : List Rank → ℕ → List ℕ → List ℕ
not_before ranks priority places = filter (λ i. leb priority (priority_at ranks i)) places

abbrev count_before : List Rank → ℕ → List ℕ → ℕ
count_before ranks priority places = count_by (λ i. ltb (priority_at ranks i) priority) places

-- without a place of a lesser priority
not_before-without : (ranks : List Rank) (priority place : ℕ) (places : List ℕ) → priority_at ranks place < priority → not_before ranks priority (without place places) ≡ not_before ranks priority places
not_before-without ranks priority place places less =
    filter-weaker (λ i. leb priority (priority_at ranks i)) (λ i. not (eqb i place))
    (λ x out. let same : x ≡ place = eqb-true x place (not_false (eqb x place) out) in lt-leb priority (priority_at ranks x) (subst (λ y. priority_at ranks y < priority) (sym same) less)) places

count_before-without : (ranks : List Rank) (priority : ℕ) (places : List ℕ) (i : ℕ) → AreDistinct places → i < length places → priority_at ranks (get_or places i 0) < priority
    → count_before ranks priority (without (get_or places i 0) places) + 1 ≡ count_before ranks priority places
count_before-without ranks priority places i apart within less =
    let g : ℕ → ℕ = λ x. cond (ltb (priority_at ranks x) priority) 1 0 in
    let one : g (get_or places i 0) ≡ 1 = ap (λ b. cond b 1 0) (lt-ltb (priority_at ranks (get_or places i 0)) priority less) in
    ap (λ ps. count_before ranks priority ps + 1) (without-remove places i within apart)
    ∙ ap (λ n. count_before ranks priority (remove places i) + n) (sym one)
    ∙ sum_by-remove g places i 0 within

-- none has a lesser priority
count_before-none : (ranks : List Rank) (priority : ℕ) (places : List ℕ) → All (λ j. priority ≤ priority_at ranks j) places → count_before ranks priority places ≡ 0
count_before-none ranks priority [] all = refl
count_before-none ranks priority (x ∷ places) all =
    sum_by-cons (λ y. cond (ltb (priority_at ranks y) priority) 1 0) x places
    ∙ rw (le-ltb (priority_at ranks x) priority (All-head (λ j. priority ≤ priority_at ranks j) x places all), count_before-none ranks priority places (All-tail (λ j. priority ≤ priority_at ranks j) x places all)) refl

not_before-all : (ranks : List Rank) (priority : ℕ) (places : List ℕ) → All (λ j. priority ≤ priority_at ranks j) places → not_before ranks priority places ≡ places
not_before-all ranks priority places all =
    filter-all (λ i. leb priority (priority_at ranks i)) places
    (list_all-from_AllPass (λ i. leb priority (priority_at ranks i)) places
    (All-weaker (λ j. priority ≤ priority_at ranks j) (λ i. leb priority (priority_at ranks i) ≡ true) (λ j h. le-leb priority (priority_at ranks j) h) places all))

-- whether a place is among others
abbrev Has : List ℕ → ℕ → Type 0
Has places place = list_any (λ i. eqb i place) places ≡ true

Has-Contains : (places : List ℕ) (place : ℕ) → Has places place → Contains places place
Has-Contains [] place has = let never : false ≡ true = has in cc
Has-Contains (x ∷ places) place has = elim (cases_Bool (eqb x place)) [
  | inl same ↦ (zero, omega arith, eqb-true x place same)
  | inr other ↦ let rest = Has-Contains places place (rw other at has) in (suc rest.0, omega (arith, rest.1), rest.2)
]

Has-All : (P : ℕ → Type 0) (places : List ℕ) (place : ℕ) → All P places → Has places place → P place
Has-All P places place all has = All-contains P places place all (Has-Contains places place has)

-- the first of a priority in the order is chosen by the word after those of the lesser priorities
pub first-chosen : (ranks : List Rank) (priority place : ℕ) (places words : List ℕ) → AreDistinct places → length places ≤ length words → Has places place → priority_at ranks place ≡ priority
    → slice_get (of_priority ranks priority (order_of ranks places words)) 0 ≡ chosen_place ranks (not_before ranks priority places) (get_or words (count_before ranks priority places) 0)
first-chosen ranks priority place places [] apart enough has is = let at = Has-Contains places place has in absurd (omega (arith, at.1))
first-chosen ranks priority place places (word ∷ words) apart enough has is =
    from (chosen_place ranks places word) refl (λ c short there. first-chosen ranks priority place (without c places) words (AreDistinct-without c places apart) short there is)
  where
    some' : 0 < length places
    some' = let at = Has-Contains places place has in omega (arith, at.1)

    from : (o : Option ℕ) → chosen_place ranks places word ≡ o
        → ((c : ℕ) → length (without c places) ≤ length words → Has (without c places) place → slice_get (of_priority ranks priority (order_of ranks (without c places) words)) 0 ≡ chosen_place ranks (not_before ranks priority (without c places)) (get_or words (count_before ranks priority (without c places)) 0))
        → slice_get (of_priority ranks priority (order_of ranks places (word ∷ words))) 0 ≡ chosen_place ranks (not_before ranks priority places) (get_or (word ∷ words) (count_before ranks priority places) 0)
    from None chose later = let never : true ≡ false = sym (chosen_place-some ranks places word some') ∙ ap is_some chose in cc
    from (Some c) chose later =
        let at = chosen_place-Contains ranks places word c chose in
        let least = chosen_place-least ranks places word c chose in
        let here : get_or places at.0 0 ≡ c = get_or_default places at.0 0 c at.1 ∙ at.2 in
        let order = order_of-chosen_place ranks places words word c chose in
        elim (cases_lt (priority_at ranks c) priority) [
          | inl less ↦
              let other : (eqb (priority_at ranks c) priority) ≡ false = ne_eqb (priority_at ranks c) priority (omega arith) in
              let apart' : c ≡ place → ⊥ = λ e. let p : priority_at ranks c ≡ priority = ap (priority_at ranks) e ∙ is in omega arith in
              let left : without c places ≡ remove places at.0 = subst (λ x. without x places ≡ remove places at.0) here (without-remove places at.0 at.1 apart) in
              let short : length (without c places) ≤ length words = omega (arith, ap length left, length-remove places at.0 at.1) in
              let there : Has (without c places) place =
              list_any-filter (λ i. eqb i place) (λ i. not (eqb i c)) (λ x out. ne_eqb x place (λ e. apart' (sym (eqb-true x c (not_false (eqb x c) out)) ∙ e))) places ∙ has in
              let counts : count_before ranks priority places ≡ suc (count_before ranks priority (without c places)) =
              let step = count_before-without ranks priority places at.0 apart at.1 (subst (λ x. priority_at ranks x < priority) (sym here) less) in
              let same : without (get_or places at.0 0) places ≡ without c places = ap (λ x. without x places) here in
              omega (arith, step, ap (count_before ranks priority) same) in
              ap (λ os. slice_get (of_priority ranks priority os) 0) order
              ∙ rw other (later c short there)
              ∙ ap (λ ps. chosen_place ranks ps (get_or words (count_before ranks priority (without c places)) 0)) (not_before-without ranks priority c places less)
              ∙ ap (λ n. chosen_place ranks (not_before ranks priority places) (get_or (word ∷ words) n 0)) (sym counts)
          | inr more ↦
              let most : priority_at ranks c ≤ priority_at ranks place = Has-All (λ j. priority_at ranks c ≤ priority_at ranks j) places place least has in
              let same : (eqb (priority_at ranks c) priority) ≡ true = eq-eqb (priority_at ranks c) priority (omega arith) in
              let all : All (λ j. priority ≤ priority_at ranks j) places = All-weaker (λ j. priority_at ranks c ≤ priority_at ranks j) (λ j. priority ≤ priority_at ranks j) (λ j h. omega arith) places least in
              ap (λ os. slice_get (of_priority ranks priority os) 0) order
              ∙ rw same (sym chose)
              ∙ ap (λ ps. chosen_place ranks ps word) (sym (not_before-all ranks priority places all))
              ∙ ap (λ n. chosen_place ranks (not_before ranks priority places) (get_or (word ∷ words) n 0)) (sym (count_before-none ranks priority places all))
        ]

-- a place of the list is one of all places
Has-all_places : (ranks : List Rank) (place : ℕ) → place < length ranks → Has (all_places ranks) place
Has-all_places ranks place within =
    let here = get_or-range_with_len 0 (length ranks) place 0 within in
    list_any_at (λ i. eqb i place) (all_places ranks) place 0 (omega (arith, length-range_with_len 0 (length ranks)))
    (eq-eqb (get_or (all_places ranks) place 0) place (omega arith))

-- fewer than all have a lesser priority than a place
words_before-lt : (ranks : List Rank) (place : ℕ) → place < length ranks → words_before ranks (priority_at ranks place) < length ranks
words_before-lt ranks place within =
    let all = all_places ranks in
    let priority = priority_at ranks place in
    let g : ℕ → ℕ = λ x. cond (ltb (priority_at ranks x) priority) 1 0 in
    let size : length all ≡ length ranks = length-range_with_len 0 (length ranks) in
    let inside : place < length all = omega arith in
    let here : get_or all place 0 ≡ place = get_or-range_with_len 0 (length ranks) place 0 within ∙ zero-add place in
    let none : g (get_or all place 0) ≡ 0 = ap g here ∙ ap (λ b. cond b 1 0) (le-ltb priority priority (omega arith)) in
    omega (arith, none, sum_by-remove g all place 0 inside, count_by-le-length (λ x. ltb (priority_at ranks x) priority) (remove all place), length-remove all place inside)

-- the places of a priority, among those of the priority or a greater one
of_priority-not_before : (ranks : List Rank) (priority : ℕ) (places : List ℕ) → of_priority ranks priority (not_before ranks priority places) ≡ of_priority ranks priority places
of_priority-not_before ranks priority places =
    filter-weaker (λ i. eqb (priority_at ranks i) priority) (λ i. leb priority (priority_at ranks i))
    (λ x out. let less : priority_at ranks x < priority = leb-false priority (priority_at ranks x) out in ne_eqb (priority_at ranks x) priority (omega arith)) places

pub share-in_order : (ranks : List Rank) (words : List ℕ) (place : ℕ) → place < length ranks → length ranks ≤ length words
    → count_by (λ word. is_place place (first_of_priority ranks (set words (words_before ranks (priority_at ranks place)) word) (priority_at ranks place))) (range_with_len 0 (total_weight ranks (group_of ranks (priority_at ranks place)) + 1))
    ≡ weight_at ranks place + cond (is_place place (slice_get (group_of ranks (priority_at ranks place)) 0)) 1 0
share-in_order ranks words place within enough =
    let priority = priority_at ranks place in
    let all = all_places ranks in
    let group = group_of ranks priority in
    let later = not_before ranks priority all in
    let k = words_before ranks priority in
    let zeros : List ℕ = replicate (length ranks) 0 in
    let below : k < length ranks = words_before-lt ranks place within in
    let has : Has all place = Has-all_places ranks place within in
    let apart : AreDistinct all = AreDistinct-range (length ranks) in
    let left : Has later place =
    list_any-filter (λ i. eqb i place) (λ i. leb priority (priority_at ranks i))
    (λ x out. ne_eqb x place (λ e. let less : priority_at ranks x < priority = leb-false priority (priority_at ranks x) out in let same : priority_at ranks x ≡ priority = ap (priority_at ranks) e in omega arith)) all ∙ has in
    let at = Has-Contains later place left in
    let attained : priority_at ranks (get_or later at.0 0) ≡ priority = ap (priority_at ranks) (get_or_default later at.0 0 place at.1 ∙ at.2) in
    let above : All (λ j. priority ≤ priority_at ranks j) later =
    All-weaker (λ j. leb priority (priority_at ranks j) ≡ true) (λ j. priority ≤ priority_at ranks j) (λ j h. leb-true priority (priority_at ranks j) h) later (filter_passes (λ i. leb priority (priority_at ranks i)) all) in
    let least : of_least_priority ranks later ≡ of_priority ranks priority all =
    filter_least (priority_at ranks) later priority above at.0 at.1 attained ∙ of_priority-not_before ranks priority all in
    let member : Has (of_priority ranks priority all) place =
    list_any-filter (λ i. eqb i place) (λ i. eqb (priority_at ranks i) priority)
    (λ x out. ne_eqb x place (λ e. both_ways (eqb (priority_at ranks x) priority) out (eq-eqb (priority_at ranks x) priority (ap (priority_at ranks) e)))) all ∙ has in
    let among : Contains (of_least_priority ranks later) place = subst (λ ps. Contains ps place) (sym least) (Has-Contains (of_priority ranks priority all) place member) in
    let alone : AreDistinct later = AllPairs-filter (λ x y. x ≡ y → ⊥) (λ i. leb priority (priority_at ranks i)) all apart in
    let share' = share-least ranks later place alone among in
    let p : ℕ → Bool = λ word. is_place place (first_of_priority ranks (set words k word) priority) in
    let q : ℕ → Bool = λ word. is_place place (chosen_place ranks later word) in
    let same : (x : ℕ) → 0 ≤ x → x < 0 + (total_weight ranks group + 1) → p x ≡ q x = λ x low high.
    let long : length all ≤ length (set words k x ++ zeros) = omega (arith, length-range_with_len 0 (length ranks), length-append (set words k x) zeros, length-set words k x) in
    let fits : k < length (set words k x) = omega (arith, length-set words k x) in
    let here : k < length words = omega arith in
    ap (is_place place)
    (first-chosen ranks priority place all (set words k x ++ zeros) apart long has refl
    ∙ ap (chosen_place ranks later) (get_or_append_left (set words k x) zeros 0 k fits ∙ get_or-set_same words k x 0 here)) in
    count-same p q 0 (total_weight ranks group + 1) same
    ∙ ap (λ ps. count_by q (range_with_len 0 (total_weight ranks (weightless_first ranks ps) + 1))) (sym least)
    ∙ share'
    ∙ ap (λ ps. weight_at ranks place + cond (is_place place (slice_get (weightless_first ranks ps) 0)) 1 0) least
