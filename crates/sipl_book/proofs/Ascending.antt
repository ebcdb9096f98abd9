-- Lists of ids in ascending order.
use Rattle.std.proofs.Common.{◌≡◌, ℕ, ◌<◌, ◌≤◌, Bool, true, false, ◌&&◌, cond, eqb, ltb, suc, List, [], ◌∷◌, map, length, filter, get_or, inl, inr, refl, sym, ap, ◌∙◌, arith}
use Rattle.std.specs.List.{All, count_by}
use Rattle.std.specs.List.Sorted.{IsNonDecreasingBy, IsPermutation}
use Rattle.std.proofs.Math.ListN.{length-map}
use Rattle.std.proofs.lemmas.Bool.{cases_Bool, eq-eqb, ltb-true, ltb-false, or_left, or_right}
use Rattle.std.proofs.lemmas.List.{get_or-map}
use Rattle.std.proofs.lemmas.List.Elements.{All-nil, All-cons, All-head, All-tail, All-weaker}
use Rattle.std.proofs.lemmas.List.Kept.{AllPairs-filter}
use Rattle.std.proofs.lemmas.List.Sorted.{sum_by-IsPermutation}
use Rattle.sipl_records.specs.declared.record.Key.{Key}
use Rattle.sipl_repair.specs.QueueState.{QueueState, after_mark}
use Rattle.sipl_book.specs.Cache.{AreMarkable, InOrder}
use Rattle.sipl_book.specs.Entries.{EntryState, after_change, depends_on}
use Rattle.sipl_book.specs.Indexed.{AreAdded, current_count}
use Rattle.sipl_book.specs.Repairs.{IsQueueAmong, dependents}
use Rattle.sipl_book.proofs.Becoming.{count-cons, dependents-count, one}
use Rattle.sipl_book.proofs.Ids.{is_id}
use Rattle.sipl_book.proofs.Queues.{IsQueueAmong-mark, capacity-mark, has_space}

abbrev pub Ascends : List ℕ → Type 0
Ascends xs = IsNonDecreasingBy (λ x. x) xs

least : (x : ℕ) (xs : List ℕ) → Ascends (x ∷ xs) → All (λ k. x ≤ k) (x ∷ xs)
least x xs up = λ k d within. up 0 k d (omega arith) within

tail : (x : ℕ) (xs : List ℕ) → Ascends (x ∷ xs) → Ascends xs
tail x xs up = λ i j d le within. up (suc i) (suc j) d (omega (arith, le)) (omega (arith, within))

none_below : (y : ℕ) (zs : List ℕ) → All (λ k. y ≤ k) zs → count_by (λ k. ltb k y) zs ≡ 0
none_below y [] above = refl
none_below y (z ∷ zs) above =
    let here : ltb z y ≡ false = elim (cases_Bool (ltb z y)) [
      | inl less ↦ absurd (let lower = ltb-true z y less in let least = All-head (λ k. y ≤ k) z zs above in omega (arith, lower, least))
      | inr other ↦ other
    ] in
    omega (arith, count-cons (λ k. ltb k y) z zs, ap one here, none_below y zs (All-tail (λ k. y ≤ k) z zs above))

-- a list whose members are those of a list from y on has none below y
not_less : (x : ℕ) (xs : List ℕ) (y : ℕ) (zs : List ℕ) → All (λ k. y ≤ k) zs → ((test : ℕ → Bool) → count_by test (x ∷ xs) ≡ count_by test zs) → y ≤ x
not_less x xs y zs above same =
    elim (cases_Bool (ltb x y)) [
      | inl less ↦
          let all = same (λ k. ltb k y) in
          absurd (omega (arith, all, none_below y zs above, count-cons (λ k. ltb k y) x xs, ap one less))
      | inr other ↦ ltb-false x y other
    ]

-- two ascending lists with the same members, each as often, are the same
pub same_ascending : (xs ys : List ℕ) → Ascends xs → Ascends ys → ((test : ℕ → Bool) → count_by test xs ≡ count_by test ys) → xs ≡ ys
same_ascending [] [] up also same = refl
same_ascending [] (y ∷ ys) up also same = absurd (let all = same (λ k. true) in omega (arith, all, count-cons (λ k. true) y ys))
same_ascending (x ∷ xs) [] up also same = absurd (let all = same (λ k. true) in omega (arith, all, count-cons (λ k. true) x xs))
same_ascending (x ∷ xs) (y ∷ ys) up also same =
    let low = not_less x xs y (y ∷ ys) (least y ys also) same in
    let high = not_less y ys x (x ∷ xs) (least x xs up) (λ test. sym (same test)) in
    let head : x ≡ y = omega (arith, low, high) in
    let rest = same_ascending xs ys (tail x xs up) (tail y ys also) (λ test.
    omega (arith, same test, count-cons test x xs, count-cons test y ys, ap (λ n. one (test n)) head)) in
    λ i. head i ∷ rest i

-- a sorted list of ids that are those of a list in order is that list
pub sorted_is : (xs ys zs : List ℕ) → IsPermutation xs ys → Ascends ys → Ascends zs → ((test : ℕ → Bool) → count_by test xs ≡ count_by test zs) → ys ≡ zs
sorted_is xs ys zs moved up also same =
    same_ascending ys zs up also (λ test. sum_by-IsPermutation (λ n. cond (test n) 1 0) xs ys moved ∙ same test)

ids-ascend : (es : List EntryState) → InOrder es → Ascends (map (λ e. e.id) es)
ids-ascend [] order = λ i j d le within. absurd (omega (arith, within))
ids-ascend (e ∷ es) order =
    λ i j d le within.
    let last : j < length (e ∷ es) = omega (arith, within, length-map (e ∷ es) (λ (x : EntryState). x.id)) in
    let first = get_or-map (λ (x : EntryState). x.id) (e ∷ es) i e d (omega (arith, le, last)) in
    let second = get_or-map (λ (x : EntryState). x.id) (e ∷ es) j e d last in
    elim (cases_Bool (ltb i j)) [
      | inl less ↦ let below = order i j e (ltb-true i j less) last in omega (arith, below, first, second)
      | inr not_less ↦ let same : i ≡ j = omega (arith, le, ltb-false i j not_less) in let equal = ap (λ n. get_or (map (λ (x : EntryState). x.id) (e ∷ es)) n d) same in omega (arith, equal)
    ]

-- the ids of the dependents ascend
pub dependents-ascend : (keys : List Key) (es : List EntryState) → InOrder es → Ascends (dependents keys es)
dependents-ascend keys es order =
    ids-ascend (filter (λ e. e.is_current && depends_on keys e) es) (AllPairs-filter (λ a b. a.id < b.id) (λ e. e.is_current && depends_on keys e) es order)

dependent_ids : (keys : List Key) (es : List EntryState) → All (λ id. is_id es id ≡ true) (dependents keys es)
dependent_ids keys [] = All-nil (λ id. false ≡ true)
dependent_ids keys (e ∷ es) =
    let P : ℕ → Type 0 = λ id. is_id (e ∷ es) id ≡ true in
    let later = All-weaker (λ id. is_id es id ≡ true) P (λ id own. or_right (eqb e.id id) (is_id es id) own) (dependents keys es) (dependent_ids keys es) in
    elim (e.is_current && depends_on keys e) as (λ b. All P (map (λ y. y.id) (cond b (e ∷ filter (λ y. y.is_current && depends_on keys y) es) (filter (λ y. y.is_current && depends_on keys y) es)))) [
      | true ↦ All-cons P e.id (dependents keys es) (or_left (eqb e.id e.id) (is_id es e.id) (eq-eqb e.id e.id refl)) later
      | false ↦ later
    ]

markable : (es : List EntryState) (ids : List ℕ) (q : QueueState) → InOrder es → IsQueueAmong es q → length es ≤ q.capacity → All (λ id. is_id es id ≡ true) ids → AreMarkable q ids
markable es [] q order so space own = tt
markable es (id ∷ ids) q order so space own =
    let P : ℕ → Type 0 = λ k. is_id es k ≡ true in
    let here = All-head P id ids own in (
      has_space es q order so id here space,
      markable es ids (after_mark q id) order (IsQueueAmong-mark es q id order so space here) (omega (arith, space, capacity-mark q id)) (All-tail P id ids own),
    )

-- the dependents may be marked
pub dependents-markable : (keys : List Key) (es : List EntryState) (q : QueueState) → InOrder es → IsQueueAmong es q → length es ≤ q.capacity → AreMarkable q (dependents keys es)
dependents-markable keys es q order so space = markable es (dependents keys es) q order so space (dependent_ids keys es)

-- the sorted ids of the entries that a change made outdated are those of the dependents
pub sorted_dependents : (keys : List Key) (es new : List EntryState) (none ids sorted : List ℕ) → InOrder es → none ≡ [] → new ≡ map (after_change keys) es
    → AreAdded es new none ids → IsPermutation ids sorted → Ascends sorted → sorted ≡ dependents keys es
sorted_dependents keys es new none ids sorted order empty changed added moved up =
    sorted_is ids sorted (dependents keys es) moved up (dependents-ascend keys es order) (λ test.
    let before = ap (λ (xs : List ℕ). count_by test xs) empty in
    let nothing : count_by test [] ≡ 0 = refl in
    let now = ap (λ (xs : List EntryState). current_count test xs) changed in
    omega (arith, added.each test, before, nothing, now, dependents-count test keys es))
