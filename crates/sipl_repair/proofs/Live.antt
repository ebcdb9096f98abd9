-- The live places: after a place is added, after an id is forgotten, and after each step of a compaction.
use Rattle.std.proofs.Common.{◌≡◌, ℕ, ◌+◌, ◌-◌, ◌<◌, ◌≤◌, true, false, cond, not, ◌||◌, eqb, ltb, List, [], ◌∷◌, ◌++◌, length, take, drop, refl, sym, ap, subst, ◌∙◌, arith, true≢false, filter, append_assoc, add-one, inl, inr, ◌⊎◌}
use Rattle.std.specs.List.{list_any, count_by, IsDistinct}
use Rattle.std.specs.Cmp.{nat_eq_equiv}
use Rattle.std.specs.FinSet as set
use Rattle.std.proofs.lemmas.Bool.{cond-false, cond-true, cond_both, cases_Bool, lt-ltb, le-ltb, ltb-true, ltb-false, or_cases, and_parts, not-true, eqb-true, eq-eqb}
use Rattle.std.proofs.lemmas.List.{take-append-le, drop-append-le}
use Rattle.std.proofs.lemmas.List.Sums.{sum_by-append}
use Rattle.std.proofs.lemmas.Map.Keys.{IsDistinct-tail}
use Rattle.sipl_repair.specs.StalePlaces.{one_more, one_less, live, AreCounted}
use Rattle.sipl_repair.proofs.Members.{NatSet, contains-insert, contains-remove, head_is_new, passes_second}
use Rattle.sipl_repair.proofs.Consistency.{filter-absent}

-- the same counts have the same live places
pub live_same : (xs : List ℕ) (n m : ℕ → ℕ) → ((k : ℕ) → m k ≡ n k) → live xs m ≡ live xs n
live_same xs n m same = ap (live xs) (λ i k. same k i)

-- where no place is stale, all are live
pub live-none_stale : (xs : List ℕ) (n : ℕ → ℕ) → ((k : ℕ) → n k ≡ 0) → live xs n ≡ xs
live-none_stale [] n none = refl
live-none_stale (x ∷ xs) n none = cond-false _ _ _ (le-ltb 0 (n x) (omega (arith, none x))) ∙ ap (λ ys. x ∷ ys) (live-none_stale xs n none)

-- the counts with one less
pub one_less-same : (n : ℕ → ℕ) (x k : ℕ) → eqb k x ≡ true → one_less n x k ≡ n k - 1
one_less-same n x k e = cond-true _ _ _ e

pub one_less-other : (n : ℕ → ℕ) (x k : ℕ) → eqb k x ≡ false → one_less n x k ≡ n k
one_less-other n x k e = cond-false _ _ _ e

one_less-none : (n : ℕ → ℕ) (x k : ℕ) → n x ≡ 0 → one_less n x k ≡ n k
one_less-none n x k none =
    cond_both (eqb k x) (n k - 1) (n k) (λ c. c ≡ n k) (λ e. let there = ap n (eqb-true k x e) in omega arith) (λ _. refl)

-- the first place of a list is counted
count-cons : (k x : ℕ) (xs : List ℕ) → count_by (eqb k) (x ∷ xs) ≡ cond (eqb k x) 1 0 + count_by (eqb k) xs
count-cons k x xs = omega (arith, sum_by-append (λ y. cond (eqb k y) 1 0) (x ∷ []) xs)

count-same : (k x : ℕ) (xs : List ℕ) → eqb k x ≡ true → count_by (eqb k) (x ∷ xs) ≡ 1 + count_by (eqb k) xs
count-same k x xs e = count-cons k x xs ∙ ap (λ b. cond b 1 0 + count_by (eqb k) xs) e

count-other : (k x : ℕ) (xs : List ℕ) → eqb k x ≡ false → count_by (eqb k) (x ∷ xs) ≡ count_by (eqb k) xs
count-other k x xs e = omega (arith, count-cons k x xs, ap {B = ℕ} (λ b. cond b 1 0) e)

-- the first place is dropped, and its id has one stale place less if it has one
module _ (x : ℕ) (xs : List ℕ) (n m : ℕ → ℕ) (less : (k : ℕ) → m k ≡ one_less n x k) where
  same_counts : ltb 0 (n x) ≡ false → (k : ℕ) → m k ≡ n k
  same_counts none k = less k ∙ one_less-none n x k (omega (arith, ltb-false 0 (n x) none))

  -- a step of a compaction, in which the first `r` places are left: the first is dropped, or it is appended
  module _ (r s : ℕ) (left : s + 1 ≡ r) where
    pub compact_stale : ltb 0 (n x) ≡ true → drop s xs ++ live (take s xs) m ≡ drop r (x ∷ xs) ++ live (take r (x ∷ xs)) n
    compact_stale stale =
        ap (λ ys. drop s xs ++ ys) (live_same (take s xs) (one_less n x) m less ∙ sym (cond-true _ _ _ stale))
        ∙ ap (λ k. drop k (x ∷ xs) ++ live (take k (x ∷ xs)) n) (sym (add-one s) ∙ left)

    pub compact_live : ltb 0 (n x) ≡ false → s ≤ length xs → drop s (xs ++ x ∷ []) ++ live (take s (xs ++ x ∷ [])) m ≡ drop r (x ∷ xs) ++ live (take r (x ∷ xs)) n
    compact_live none within =
        ap (λ ys. ys ++ live (take s (xs ++ x ∷ [])) m) (drop-append-le s xs (x ∷ []) within)
        ∙ ap (λ ys. (drop s xs ++ x ∷ []) ++ live ys m) (take-append-le s xs (x ∷ []) within)
        ∙ append_assoc (drop s xs) (x ∷ []) (live (take s xs) m)
        ∙ ap (λ ys. drop s xs ++ x ∷ ys) (live_same (take s xs) n m (same_counts none))
        ∙ ap (λ ys. drop s xs ++ ys) (sym (cond-false _ _ _ none))
        ∙ ap (λ k. drop k (x ∷ xs) ++ live (take k (x ∷ xs)) n) (sym (add-one s) ∙ left)

-- a place that is appended is live, where the id has as many places as are stale
pub live-push : (xs : List ℕ) (n : ℕ → ℕ) (id : ℕ) → n id ≤ count_by (eqb id) xs → live (xs ++ id ∷ []) n ≡ live xs n ++ id ∷ []
live-push [] n id le = cond-false _ _ _ (le-ltb 0 (n id) (omega arith))
live-push (x ∷ xs) n id le =
    elim (cases_Bool (ltb 0 (n x))) [
      | inl stale ↦ cond-true _ _ _ stale ∙ live-push xs (one_less n x) id (if_stale (cases_Bool (eqb id x))) ∙ ap (λ ys. ys ++ id ∷ []) (sym (cond-true _ _ _ stale))
      | inr none ↦ cond-false _ _ _ none ∙ ap (λ ys. x ∷ ys) (live-push xs n id (if_live none (cases_Bool (eqb id x)))) ∙ ap (λ ys. ys ++ id ∷ []) (sym (cond-false _ _ _ none))
    ]
  where
    if_stale : (eqb id x ≡ true) ⊎ (eqb id x ≡ false) → one_less n x id ≤ count_by (eqb id) xs
    if_stale (inl e) = omega (arith, le, one_less-same n x id e, count-same id x xs e)
    if_stale (inr e) = omega (arith, le, one_less-other n x id e, count-other id x xs e)

    if_live : ltb 0 (n x) ≡ false → (eqb id x ≡ true) ⊎ (eqb id x ≡ false) → n id ≤ count_by (eqb id) xs
    if_live none (inl e) = omega (arith, ap n (eqb-true id x e), ltb-false 0 (n x) none)
    if_live none (inr e) = omega (arith, le, count-other id x xs e)

-- a place that is prepended is live, where the id has no stale place
pub live-cons : (xs : List ℕ) (n : ℕ → ℕ) (id : ℕ) → n id ≡ 0 → live (id ∷ xs) n ≡ id ∷ live xs n
live-cons xs n id none = cond-false _ _ _ (le-ltb 0 (n id) (omega (arith, none)))

-- a live id has more places than stale ones
pub count-live : (xs : List ℕ) (n : ℕ → ℕ) (id : ℕ) → list_any (eqb id) (live xs n) ≡ true → n id < count_by (eqb id) xs
count-live [] n id there = absurd (true≢false (sym there))
count-live (x ∷ xs) n id there =
    elim (cases_Bool (ltb 0 (n x))) [
      | inl stale ↦ if_stale stale (count-live xs (one_less n x) id (sym (ap (list_any (eqb id)) (cond-true _ _ _ stale)) ∙ there)) (cases_Bool (eqb id x))
      | inr none ↦ if_live none (count-live xs n id) (cases_Bool (eqb id x))
    ]
  where
    if_stale : ltb 0 (n x) ≡ true → one_less n x id < count_by (eqb id) xs → (eqb id x ≡ true) ⊎ (eqb id x ≡ false) → n id < count_by (eqb id) (x ∷ xs)
    if_stale stale lt (inl e) = omega (arith, lt, one_less-same n x id e, count-same id x xs e)
    if_stale stale lt (inr e) = omega (arith, lt, one_less-other n x id e, count-other id x xs e)

    if_live : ltb 0 (n x) ≡ false → (list_any (eqb id) (live xs n) ≡ true → n id < count_by (eqb id) xs) → (eqb id x ≡ true) ⊎ (eqb id x ≡ false) → n id < count_by (eqb id) (x ∷ xs)
    if_live none rest (inl e) = omega (arith, ap n (eqb-true id x e), ltb-false 0 (n x) none, count-same id x xs e)
    if_live none rest (inr e) =
        let lt = rest (passes_second _ _ e (sym (ap (list_any (eqb id)) (cond-false _ _ _ none)) ∙ there)) in
        omega (arith, lt, count-other id x xs e)

-- the counts with one more
pub one_more-same : (n : ℕ → ℕ) (id k : ℕ) → eqb k id ≡ true → one_more n id k ≡ n k + 1
one_more-same n id k e = cond-true _ _ _ e

pub one_more-other : (n : ℕ → ℕ) (id k : ℕ) → eqb k id ≡ false → one_more n id k ≡ n k
one_more-other n id k e = cond-false _ _ _ e

one_more-ge : (n : ℕ → ℕ) (id k : ℕ) → n k ≤ one_more n id k
one_more-ge n id k = cond_both (eqb k id) (n k + 1) (n k) (λ c. n k ≤ c) (λ _. omega arith) (λ _. omega arith)

-- one more for one id and one less for another, in either order
less_of_more : (n m : ℕ → ℕ) (id x : ℕ) → 0 < n x → ((k : ℕ) → m k ≡ one_more n id k) → (k : ℕ) → one_less m x k ≡ one_more (one_less n x) id k
less_of_more n m id x some more k = by (cases_Bool (eqb k x)) (cases_Bool (eqb k id))
  where
    by : (eqb k x ≡ true) ⊎ (eqb k x ≡ false) → (eqb k id ≡ true) ⊎ (eqb k id ≡ false) → one_less m x k ≡ one_more (one_less n x) id k
    by (inl e) (inl f) = omega (arith, some, ap n (eqb-true k x e), one_less-same m x k e, more k, one_more-same n id k f, one_more-same (one_less n x) id k f, one_less-same n x k e)
    by (inl e) (inr f) = omega (arith, one_less-same m x k e, more k, one_more-other n id k f, one_more-other (one_less n x) id k f, one_less-same n x k e)
    by (inr e) (inl f) = omega (arith, one_less-other m x k e, more k, one_more-same n id k f, one_more-same (one_less n x) id k f, one_less-other n x k e)
    by (inr e) (inr f) = omega (arith, one_less-other m x k e, more k, one_more-other n id k f, one_more-other (one_less n x) id k f, one_less-other n x k e)

-- one more and one less for the same id
less_of_same : (n m : ℕ → ℕ) (x : ℕ) → ((k : ℕ) → m k ≡ one_more n x k) → (k : ℕ) → one_less m x k ≡ n k
less_of_same n m x more k = by (cases_Bool (eqb k x))
  where
    by : (eqb k x ≡ true) ⊎ (eqb k x ≡ false) → one_less m x k ≡ n k
    by (inl e) = omega (arith, one_less-same m x k e, more k, one_more-same n x k e)
    by (inr e) = omega (arith, one_less-other m x k e, more k, one_more-other n x k e)

-- one more stale place of a live id drops it from the live ones
pub live-forget : (xs : List ℕ) (n m : ℕ → ℕ) (id : ℕ) → ((k : ℕ) → m k ≡ one_more n id k) → IsDistinct eqb (live xs n) → list_any (eqb id) (live xs n) ≡ true
    → live xs m ≡ filter (λ k. not (eqb k id)) (live xs n)
live-forget [] n m id more distinct there = absurd (true≢false (sym there))
live-forget (x ∷ xs) n m id more distinct there =
    elim (cases_Bool (ltb 0 (n x))) [
      | inl stale ↦
          let tail = cond-true _ _ _ stale in
          let some = ltb-true 0 (n x) stale in
          cond-true _ _ _ (lt-ltb 0 (m x) (omega (arith, some, more x, one_more-ge n id x)))
          ∙ live-forget xs (one_less n x) (one_less m x) id (less_of_more n m id x some more) (subst (IsDistinct eqb) tail distinct) (sym (ap (list_any (eqb id)) tail) ∙ there)
          ∙ ap (filter (λ k. not (eqb k id))) (sym tail)
      | inr none ↦
          let all = cond-false _ _ _ none in
          if_live none (subst (IsDistinct eqb) all distinct) (sym (ap (list_any (eqb id)) all) ∙ there) (live-forget xs n m id more) (cases_Bool (eqb id x))
          ∙ ap (filter (λ k. not (eqb k id))) (sym all)
    ]
  where
    if_live : ltb 0 (n x) ≡ false → IsDistinct eqb (x ∷ live xs n) → (eqb id x || list_any (eqb id) (live xs n)) ≡ true
        → (IsDistinct eqb (live xs n) → list_any (eqb id) (live xs n) ≡ true → live xs m ≡ filter (λ k. not (eqb k id)) (live xs n))
        → (eqb id x ≡ true) ⊎ (eqb id x ≡ false) → live (x ∷ xs) m ≡ filter (λ k. not (eqb k id)) (x ∷ live xs n)
    if_live none apart there rest (inl e) =
        let same = eqb-true id x e in
        let more_x : (k : ℕ) → m k ≡ one_more n x k = λ k. more k ∙ ap (λ i. one_more n i k) same in
        cond-true _ _ _ (lt-ltb 0 (m x) (omega (arith, more_x x, one_more-same n x x (eq-eqb x x refl))))
        ∙ live_same xs n (one_less m x) (less_of_same n m x more_x)
        ∙ sym (filter-absent (live xs n) id (ap (λ i. list_any (eqb i) (live xs n)) same ∙ head_is_new x (live xs n) apart))
        ∙ sym (cond-false _ _ _ (ap not (eq-eqb x id (sym same))))
    if_live none apart there rest (inr e) =
        let other = nat_eq_equiv.symm x id ∙ e in
        cond-false _ _ _ (le-ltb 0 (m x) (omega (arith, ltb-false 0 (n x) none, more x, one_more-other n id x other)))
        ∙ ap (λ ys. x ∷ ys) (rest (IsDistinct-tail eqb x (live xs n) apart) (passes_second _ _ e there))
        ∙ sym (cond-true _ _ _ (ap not other))

-- the places are still counted after one is added, and after a live id has one more stale place
pub AreCounted-push : (xs : List ℕ) (n : ℕ → ℕ) (id : ℕ) → AreCounted xs n → AreCounted (xs ++ id ∷ []) n
AreCounted-push xs n id counted k = omega (arith, counted k, sum_by-append (λ y. cond (eqb k y) 1 0) xs (id ∷ []))

pub AreCounted-cons : (xs : List ℕ) (n : ℕ → ℕ) (id : ℕ) → AreCounted xs n → AreCounted (id ∷ xs) n
AreCounted-cons xs n id counted k = omega (arith, counted k, count-cons k id xs)

pub AreCounted-forget : (xs : List ℕ) (n m : ℕ → ℕ) (id : ℕ) → ((k : ℕ) → m k ≡ one_more n id k) → list_any (eqb id) (live xs n) ≡ true → AreCounted xs n → AreCounted xs m
AreCounted-forget xs n m id more there counted k =
    elim (cases_Bool (eqb k id)) [
      | inl e ↦
          let same = eqb-true k id e in
          let lt : n k < count_by (eqb k) xs = subst (λ i. n i < count_by (eqb i) xs) (sym same) (count-live xs n id there) in
          omega (arith, lt, more k, one_more-same n id k e)
      | inr e ↦ omega (arith, counted k, more k, one_more-other n id k e)
    ]

-- leased ids have no stale place after one more is leased, and after an id is forgotten
pub none_stale-lease : (s : NatSet) (n m : ℕ → ℕ) (id : ℕ) → ((k : ℕ) → set.contains s k ≡ true → n k ≡ 0) → ((k : ℕ) → m k ≤ n k) → m id ≡ 0
    → (k : ℕ) → set.contains (set.insert s id) k ≡ true → m k ≡ 0
none_stale-lease s n m id none fewer here k leased =
    elim (or_cases _ _ (sym (contains-insert s id k) ∙ leased)) [
      | inl e ↦ ap m (eqb-true k id e) ∙ here
      | inr there ↦ omega (arith, none k there, fewer k)
    ]

pub none_stale-forget : (s : NatSet) (n m l : ℕ → ℕ) (id : ℕ) → ((k : ℕ) → set.contains s k ≡ true → n k ≡ 0) → ((k : ℕ) → m k ≡ one_more n id k) → ((k : ℕ) → l k ≤ m k)
    → (k : ℕ) → set.contains (set.remove s id) k ≡ true → l k ≡ 0
none_stale-forget s n m l id none more fewer k leased =
    let parts = and_parts (not (eqb k id)) (set.contains s k) (sym (contains-remove s id k) ∙ leased) in
    omega (arith, none k parts.1, fewer k, more k, one_more-other n id k (not-true (eqb k id) parts.0))
