-- How many numbers choose each place.
use Rattle.std.proofs.Common.{◌≡◌, ℕ, zero, suc, ◌+◌, ◌<◌, ◌≤◌, Bool, true, false, not, cond, eqb, leb, List, [], ◌∷◌, ◌++◌, slice_get, get_or, refl, ap, sym, subst, ◌∙◌, inl, inr, arith, add-one, add-zero, zero-add}
use Rattle.std.proofs.Math.Nat.{mod-eq_of_lt}
use Rattle.std.specs.List.{Contains, count_by, list_all, remove, range_with_len, sum_by}
use Rattle.std.proofs.lemmas.Bool.{cases_Bool, eq-eqb, le-leb, lt-leb}
use Rattle.std.proofs.lemmas.List.{get_or_default}
use Rattle.std.proofs.lemmas.List.Elements.{All-append, All-filter, All-contains, All-contains_itself}
use Rattle.std.proofs.lemmas.List.Filters.{sum_by-filter_both}
use Rattle.std.proofs.lemmas.List.Kept.{AllPairs-filter}
use Rattle.std.proofs.lemmas.List.Sums.{sum_by-cons, sum_by-append, sum_by-remove}
use Rattle.sipl_srv.specs.Order.{Rank, priority_at, weight_at, of_least_priority, weightless, weighted, candidates, total_weight, first_reaching, chosen_place, without, AreDistinct}
use Rattle.sipl_srv.specs.Shares.{is_place, is_first_candidate, share}
use Rattle.sipl_srv.proofs.Places.{without-remove}

-- numbers in a row
range-add : (a m n : ℕ) → range_with_len a (m + n) ≡ range_with_len a m ++ range_with_len (a + m) n
range-add a zero n = rw (zero-add, add-zero) refl
range-add a (suc m) n =
    let more : suc m + n ≡ suc (m + n) = omega arith in
    let next : a + 1 + m ≡ a + suc m = omega arith in
    ap (range_with_len a) more ∙ ap (λ xs. a ∷ xs) (range-add (a + 1) m n ∙ ap (λ b. range_with_len (a + 1) m ++ range_with_len b n) next)

-- a test with one result on numbers in a row, and two tests that agree there
count-constant : (p : ℕ → Bool) (b : Bool) (a n : ℕ) → ((x : ℕ) → a ≤ x → x < a + n → p x ≡ b) → count_by p (range_with_len a n) ≡ cond b n 0
count-constant p true a zero is = refl
count-constant p false a zero is = refl
count-constant p true a (suc n) is =
    let rest = count-constant p true (a + 1) n (λ x low high. is x (omega arith) (omega arith)) in
    sum_by-cons (λ x. cond (p x) 1 0) a (range_with_len (a + 1) n)
    ∙ rw (is a (omega arith) (omega arith), rest) (omega arith)
count-constant p false a (suc n) is =
    let rest = count-constant p false (a + 1) n (λ x low high. is x (omega arith) (omega arith)) in
    sum_by-cons (λ x. cond (p x) 1 0) a (range_with_len (a + 1) n)
    ∙ rw (is a (omega arith) (omega arith), rest) refl

pub count-same : (p q : ℕ → Bool) (a n : ℕ) → ((x : ℕ) → a ≤ x → x < a + n → p x ≡ q x) → count_by p (range_with_len a n) ≡ count_by q (range_with_len a n)
count-same p q a zero same = refl
count-same p q a (suc n) same =
    let rest = count-same p q (a + 1) n (λ x low high. same x (omega arith) (omega arith)) in
    sum_by-cons (λ x. cond (p x) 1 0) a (range_with_len (a + 1) n)
    ∙ rw (same a (omega arith) (omega arith), rest) (sym (sum_by-cons (λ x. cond (q x) 1 0) a (range_with_len (a + 1) n)))

-- the numbers above the sum so far, up to the whole sum, choose each place as often as its weight
count-reaching : (ranks : List Rank) (place sum : ℕ) (places : List ℕ)
    → count_by (λ x. is_place place (first_reaching ranks x sum places)) (range_with_len (sum + 1) (total_weight ranks places)) ≡ sum_by (λ x. cond (eqb x place) (weight_at ranks x) 0) places
count-reaching ranks place sum [] = refl
count-reaching ranks place sum (x ∷ places) =
    let w = weight_at ranks x in
    let total = total_weight ranks places in
    let p : ℕ → Bool = λ number. is_place place (first_reaching ranks number sum (x ∷ places)) in
    let q : ℕ → Bool = λ number. is_place place (first_reaching ranks number (sum + w) places) in
    let next : sum + 1 + w ≡ sum + w + 1 = omega arith in
    let here : (number : ℕ) → sum + 1 ≤ number → number < sum + 1 + w → p number ≡ eqb x place =
    λ number low high. let reached : number ≤ sum + w = omega arith in rw (le-leb number (sum + w) reached) refl in
    let later : (number : ℕ) → sum + w + 1 ≤ number → number < sum + w + 1 + total → p number ≡ q number =
    λ number low high. let above : sum + w < number = omega arith in rw (lt-leb number (sum + w) above) refl in
    ap (λ n. count_by p (range_with_len (sum + 1) n)) (sum_by-cons (weight_at ranks) x places)
    ∙ ap (count_by p) (range-add (sum + 1) w total)
    ∙ sum_by-append (λ number. cond (p number) 1 0) (range_with_len (sum + 1) w) (range_with_len (sum + 1 + w) total)
    ∙ ap (λ n. n + count_by p (range_with_len (sum + 1 + w) total)) (count-constant p (eqb x place) (sum + 1) w here)
    ∙ ap (λ a. cond (eqb x place) w 0 + count_by p (range_with_len a total)) next
    ∙ ap (λ n. cond (eqb x place) w 0 + n) (count-same p q (sum + w + 1) total later ∙ count-reaching ranks place (sum + w) places)
    ∙ sym (sum_by-cons (λ y. cond (eqb y place) (weight_at ranks y) 0) x places)

-- the other places add nothing
sum-others : (ranks : List Rank) (place : ℕ) (places : List ℕ) → sum_by (λ x. cond (eqb x place) (weight_at ranks x) 0) (without place places) ≡ 0
sum-others ranks place [] = refl
sum-others ranks place (x ∷ places) = elim (cases_Bool (eqb x place)) [
  | inl same ↦ rw same (sum-others ranks place places)
  | inr other ↦ rw other (sum_by-cons (λ y. cond (eqb y place) (weight_at ranks y) 0) x (without place places) ∙ rw (other, sum-others ranks place places) refl)
]

sum-place : (ranks : List Rank) (place : ℕ) (places : List ℕ) → AreDistinct places → Contains places place → sum_by (λ x. cond (eqb x place) (weight_at ranks x) 0) places ≡ weight_at ranks place
sum-place ranks place places apart at =
    let g : ℕ → ℕ = λ x. cond (eqb x place) (weight_at ranks x) 0 in
    let here : get_or places at.0 0 ≡ place = get_or_default places at.0 0 place at.1 ∙ at.2 in
    let left : without place places ≡ remove places at.0 = subst (λ p. without p places ≡ remove places at.0) here (without-remove places at.0 at.1 apart) in
    let one : g (get_or places at.0 0) ≡ weight_at ranks place = ap g here ∙ ap (λ b. cond b (weight_at ranks place) 0) (eq-eqb place place refl) in
    sym (sum_by-remove g places at.0 0 at.1)
    ∙ ap (λ ps. sum_by g ps + g (get_or places at.0 0)) (sym left)
    ∙ ap (λ n. n + g (get_or places at.0 0)) (sum-others ranks place places)
    ∙ zero-add (g (get_or places at.0 0)) ∙ one

-- the number 0 chooses the first
reaching-first : (ranks : List Rank) (places : List ℕ) → first_reaching ranks 0 0 places ≡ slice_get places 0
reaching-first ranks [] = refl
reaching-first ranks (x ∷ places) = rw (le-leb 0 (0 + weight_at ranks x) (omega arith)) refl

pub share-least : (ranks : List Rank) (places : List ℕ) (place : ℕ) → AreDistinct places → Contains (of_least_priority ranks places) place → share ranks places place ≡ weight_at ranks place + cond (is_first_candidate ranks places place) 1 0
share-least ranks places place apart at =
    let from = candidates ranks places in
    let least = of_least_priority ranks places in
    let total = total_weight ranks from in
    let g : ℕ → ℕ = λ x. cond (eqb x place) (weight_at ranks x) 0 in
    let p : ℕ → Bool = λ word. is_place place (chosen_place ranks places word) in
    let q : ℕ → Bool = λ number. is_place place (first_reaching ranks number 0 from) in
    let same : (x : ℕ) → 0 ≤ x → x < 0 + (total + 1) → p x ≡ q x =
    λ x low high. let within : x < total + 1 = omega arith in ap (λ number. is_place place (first_reaching ranks number 0 from)) (mod-eq_of_lt within) in
    let alone : AreDistinct least = AllPairs-filter (λ x y. x ≡ y → ⊥) (λ i. list_all (λ j. leb (priority_at ranks i) (priority_at ranks j)) places) places apart in
    let weights : sum_by g from ≡ weight_at ranks place =
    sum_by-append g (weightless ranks least) (weighted ranks least)
    ∙ sum_by-filter_both (λ i. eqb (weight_at ranks i) 0) (λ i. not (eqb (weight_at ranks i) 0)) (λ _. refl) g least
    ∙ sum-place ranks place least alone at in
    let one_more : count_by q (range_with_len 0 (total + 1)) ≡ cond (q 0) 1 0 + count_by q (range_with_len 1 total) =
    ap (λ n. count_by q (range_with_len 0 n)) (add-one total) ∙ sum_by-cons (λ x. cond (q x) 1 0) 0 (range_with_len 1 total) in
    let first : q 0 ≡ is_first_candidate ranks places place = ap (is_place place) (reaching-first ranks from) in
    let others : count_by q (range_with_len 1 total) ≡ weight_at ranks place = count-reaching ranks place 0 from ∙ weights in
    let as_number : Bool → ℕ = λ b. cond b 1 0 in
    let one = ap as_number first in
    count-same p q 0 (total + 1) same ∙ one_more ∙ omega (arith, others, one)

pub share-is : (ranks : List Rank) (places : List ℕ) (place : ℕ) → AreDistinct places → Contains (candidates ranks places) place → share ranks places place ≡ weight_at ranks place + cond (is_first_candidate ranks places place) 1 0
share-is ranks places place apart among =
    let least = of_least_priority ranks places in
    share-least ranks places place apart
    (All-contains (Contains least) (candidates ranks places) place
    (All-append (Contains least) (weightless ranks least) (weighted ranks least)
    (All-filter (λ i. eqb (weight_at ranks i) 0) (Contains least) least (All-contains_itself least))
    (All-filter (λ i. not (eqb (weight_at ranks i) 0)) (Contains least) least (All-contains_itself least))) among)
