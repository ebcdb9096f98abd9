-- The queue of the entries: what each call leaves of it.
use Rattle.std.proofs.Common.{◌≡◌, ℕ, ◌+◌, ◌<◌, ◌≤◌, Bool, true, false, not, ◌&&◌, ◌||◌, cond, eqb, ltb, List, [], ◌∷◌, ◌++◌, map, length, filter, drop, get_or, Ok, inl, inr, refl, sym, ap, subst, ◌∙◌, arith, true≢false}
use Rattle.std.specs.FinSet as set
use Rattle.std.specs.List.{All, IsDistinct, list_any}
use Rattle.std.specs.Cmp.{nat_eq_equiv}
use Rattle.std.proofs.Math.ListN.{length-map}
use Rattle.std.proofs.lemmas.Bool.{cases_Bool, cond-true, cond_both, eq-eqb, lt-ltb, or_cases, or_left, or_right, or_parts}
use Rattle.std.proofs.lemmas.List.Elements.{All-nil, All-cons, All-head, All-tail, All-weaker}
use Rattle.std.proofs.lemmas.List.{at_drop_more}
use Rattle.std.proofs.lemmas.List.Folds.{list_any_at}
use Rattle.std.proofs.lemmas.Map.Keys.{IsDistinct-cons, IsDistinct-from_apart}
use Rattle.std.proofs.lemmas.Map.Made.{length-le_from_is_member}
use Rattle.std.proofs.lemmas.List.Kept.{AllPairs-filter}
use Rattle.std.proofs.lemmas.List.Filters.{length-filter_both}
use Rattle.std.proofs.lemmas.Option.{same_Some}
use Rattle.std.specs.Result.{result_ok}
use Rattle.std.proofs.lemmas.Map.Views.{any-filter_same, exact_unsigned_eq}
use Rattle.sipl_records.specs.declared.record.Key.{Key}
use Rattle.sipl_repair.specs.QueueState.{QueueState, IsConsistent, is_queued, is_leased, is_held, has_capacity_for, first_of, after_mark, after_lease, with_first_leased, after_give_back}
use Rattle.sipl_repair.proofs.Public.{differs_from_each, is_held-after_mark, same_members, contains-from_list, contains-insert, len-from_list, remove-insert, IsConsistent-after_mark}
use Rattle.sipl_book.specs.Cache.{InOrder}
use Rattle.sipl_book.specs.Entries.{EntryState, depends_on, after_change}
use Rattle.sipl_book.specs.Repairs.{IsQueueAmong, IsQueueOf, after_marks, dependents, outdated}
use Rattle.sipl_book.proofs.Ids.{ids_of, is_id, is_id-ids_of, apart-ids_of}
use Rattle.sipl_book.proofs.Waiting.{AreOutdated, are_outdated, outdated-marks}

-- ---- the space that a queue shows

abbrev pub with_space : ℕ → QueueState → QueueState
with_space n q = record q { capacity = n }

pub mark-space : (n : ℕ) (q : QueueState) (id : ℕ) → with_space n (after_mark q id) ≡ after_mark (with_space n q) id
mark-space n q id =
    let more : QueueState = record q { queued = q.queued ++ id ∷ [] } in
    elim (is_held q id) as (λ b. with_space n (cond b q more) ≡ cond b (with_space n q) (with_space n more)) [ true ↦ refl | false ↦ refl ]

pub marks-space : (n : ℕ) (q : QueueState) (ids : List ℕ) → with_space n (after_marks q ids) ≡ after_marks (with_space n q) ids
marks-space n q [] = refl
marks-space n q (id ∷ ids) = marks-space n (after_mark q id) ids ∙ ap (λ w. after_marks w ids) (mark-space n q id)

-- ---- the held ids are at most as many as the entries

-- the ids of a list that pass a test
contains-filter : (p : ℕ → Bool) (xs : List ℕ) (k : ℕ) → list_any (eqb k) (filter p xs) ≡ (p k && list_any (eqb k) xs)
contains-filter p xs k = any-filter_same (eqb k) p (p k) (λ q same. ap p (sym (exact_unsigned_eq k q same))) xs

module _ (es : List EntryState) (q : QueueState) (order : InOrder es) (so : IsQueueAmong es q) where
  abbrev ids : List ℕ
  ids = ids_of es

  held_is_id : (k : ℕ) → is_held q k ≡ true → list_any (eqb k) ids ≡ true
  held_is_id k held = is_id-ids_of es k ∙ so.of_entries k held

  queued_is_not_leased : (k : ℕ) → is_queued q k ≡ true → is_leased q k ≡ false
  queued_is_not_leased k queued = elim (cases_Bool (is_leased q k)) [
    | inl leased ↦ absurd (true≢false (sym queued ∙ so.apart k leased))
    | inr other ↦ other
  ]

  -- the leased ids in the order of the entries
  abbrev leased : List ℕ
  leased = filter (set.contains q.leased) ids

  leased_set : q.leased ≡ set.from_list leased
  leased_set =
      same_members q.leased (set.from_list leased) (λ k.
      sym (contains-from_list leased k ∙ contains-filter (set.contains q.leased) ids k ∙ by k (set.contains q.leased k) refl))
    where
      by : (k : ℕ) (b : Bool) → set.contains q.leased k ≡ b → (b && list_any (eqb k) ids) ≡ b
      by k true is = held_is_id k (or_right (is_queued q k) (is_leased q k) is)
      by k false is = refl

  count-leased : set.len q.leased ≡ length leased
  count-leased = ap set.len leased_set ∙ len-from_list leased (IsDistinct-from_apart eqb leased (AllPairs-filter (λ a b. eqb a b ≡ false) (set.contains q.leased) ids (apart-ids_of es order)))

  others : List ℕ
  others = filter (λ k. not (set.contains q.leased k)) ids

  few : (more : List ℕ) → IsDistinct eqb more → ((k : ℕ) → list_any (eqb k) more ≡ true → (is_leased q k ≡ false) × (list_any (eqb k) ids ≡ true))
      → length more + set.len q.leased ≤ length es
  unfolding others
  few more distinct each =
      let within = length-le_from_is_member nat_eq_equiv more others distinct (λ k there.
      contains-filter (λ x. not (set.contains q.leased x)) ids k ∙ (λ i. not ((each k there).0 i) && (each k there).1 i)) in
      omega (arith, within, count-leased, length-filter_both (set.contains q.leased) (λ k. not (set.contains q.leased k)) (λ _. refl) ids, length-map es (λ (e : EntryState). e.id))

  -- an id of an entry that is neither queued nor leased finds space
  pub has_space : (id : ℕ) → is_id es id ≡ true → length es ≤ q.capacity → has_capacity_for q id ≡ true
  has_space id own space = by (is_held q id) refl
    where
      by : (b : Bool) → is_held q id ≡ b → (b || ltb (length q.queued + set.len q.leased) q.capacity) ≡ true
      by true held = refl
      by false idle =
          let parts = or_parts _ _ idle in
          let below = few (id ∷ q.queued) (IsDistinct-cons eqb id q.queued (differs_from_each id q.queued parts.0) so.distinct) each in
          lt-ltb (length q.queued + set.len q.leased) q.capacity (omega (arith, below, space))
        where
          each : (k : ℕ) → (eqb k id || list_any (eqb k) q.queued) ≡ true → (is_leased q k ≡ false) × (list_any (eqb k) ids ≡ true)
          each k there = elim (or_cases _ _ there) [
            | inl same ↦ let is = exact_unsigned_eq k id same in (ap (is_leased q) is ∙ (or_parts _ _ idle).1, ap (λ n. list_any (eqb n) ids) is ∙ is_id-ids_of es id ∙ own)
            | inr queued ↦ (queued_is_not_leased k queued, held_is_id k (or_left (is_queued q k) (is_leased q k) queued))
          ]

  -- so the queue is consistent
  pub consistent : length es ≤ q.capacity → IsConsistent q
  consistent space =
      record {
        distinct = so.distinct;
        apart = so.apart;
        within =
            let within = few q.queued so.distinct (λ k queued. (queued_is_not_leased k queued, held_is_id k (or_left (is_queued q k) (is_leased q k) queued))) in
            omega (arith, space, within);
      }

-- ---- marks

-- a mark of an entry's id leaves a queue of ids of entries
pub IsQueueAmong-mark : (es : List EntryState) (q : QueueState) (id : ℕ) → InOrder es → IsQueueAmong es q → length es ≤ q.capacity → is_id es id ≡ true
    → IsQueueAmong es (after_mark q id)
IsQueueAmong-mark es q id order so space own =
    let good = IsConsistent-after_mark q id (has_space es q order so id own space) (consistent es q order so space) in
    record {
      distinct = good.distinct;
      apart = good.apart;
      of_entries = λ k held. elim (or_cases (eqb k id) (is_held q k) (sym (is_held-after_mark q id k) ∙ held)) [
        | inl same ↦ ap (is_id es) (exact_unsigned_eq k id same) ∙ own
        | inr before ↦ so.of_entries k before
      ];
    }

pub capacity-mark : (q : QueueState) (id : ℕ) → (after_mark q id).capacity ≡ q.capacity
capacity-mark q id = cond_both (is_held q id) q (record q { queued = q.queued ++ id ∷ [] }) (λ (w : QueueState). w.capacity ≡ q.capacity) (λ _. refl) (λ _. refl)

pub capacity-marks : (q : QueueState) (ids : List ℕ) → (after_marks q ids).capacity ≡ q.capacity
capacity-marks q [] = refl
capacity-marks q (id ∷ ids) = capacity-marks (after_mark q id) ids ∙ capacity-mark q id

-- what is held stays so
pub held-marks : (q : QueueState) (ids : List ℕ) (k : ℕ) → is_held q k ≡ true → is_held (after_marks q ids) k ≡ true
held-marks q [] k held = held
held-marks q (id ∷ ids) k held = held-marks (after_mark q id) ids k (is_held-after_mark q id k ∙ or_right (eqb k id) (is_held q k) held)

-- the marked ids are held
outdated-held : (es : List EntryState) (q : QueueState) → All (λ e. e.is_current ≡ false → is_held (after_marks q (outdated es)) e.id ≡ true) es
outdated-held [] q = All-nil (λ e. e.is_current ≡ false → is_held (after_marks q []) e.id ≡ true)
outdated-held (e ∷ es) q =
    elim (e.is_current) as (λ b. e.is_current ≡ b → All (λ x. x.is_current ≡ false → is_held (after_marks q (map (λ y. y.id) (cond (not b) (e ∷ filter (λ y. not y.is_current) es) (filter (λ y. not y.is_current) es)))) x.id ≡ true) (e ∷ es)) [
      | true ↦ λ current. All-cons (λ x. x.is_current ≡ false → is_held (after_marks q (outdated es)) x.id ≡ true) e es (λ out_of_date. absurd (true≢false (sym current ∙ out_of_date))) (outdated-held es q)
      | false ↦ λ out_of_date.
          let w = after_mark q e.id in
          All-cons (λ x. x.is_current ≡ false → is_held (after_marks w (outdated es)) x.id ≡ true) e es
          (λ _. held-marks w (outdated es) e.id (is_held-after_mark q e.id e.id ∙ or_left (eqb e.id e.id) (is_held q e.id) (eq-eqb e.id e.id refl)))
          (outdated-held es w)
    ] refl

-- marks of ids of entries leave the queue of those entries
pub IsQueueOf-marks : (es : List EntryState) (q : QueueState) → InOrder es → IsQueueAmong es q → AreOutdated es q → length es ≤ q.capacity
    → IsQueueOf es (after_marks q (outdated es))
IsQueueOf-marks es q order so queued space =
    record {
      among = each (outdated es) q so space (outdated_ids es);
      outdated = outdated-marks es q (outdated es) queued (are_outdated es);
      waiting = outdated-held es q;
    }
  where
    each : (ids : List ℕ) (w : QueueState) → IsQueueAmong es w → length es ≤ w.capacity → All (λ id. is_id es id ≡ true) ids → IsQueueAmong es (after_marks w ids)
    each [] w among fits own = among
    each (id ∷ ids) w among fits own =
        let P : ℕ → Type 0 = λ k. is_id es k ≡ true in
        each ids (after_mark w id) (IsQueueAmong-mark es w id order among fits (All-head P id ids own)) (omega (arith, fits, capacity-mark w id)) (All-tail P id ids own)

    outdated_ids : (xs : List EntryState) → All (λ id. is_id xs id ≡ true) (outdated xs)
    outdated_ids [] = All-nil (λ id. false ≡ true)
    outdated_ids (x ∷ xs) =
        let P : ℕ → Type 0 = λ id. is_id (x ∷ xs) id ≡ true in
        let later = All-weaker (λ id. is_id xs id ≡ true) P (λ id own. or_right (eqb x.id id) (is_id xs id) own) (outdated xs) (outdated_ids xs) in
        elim (x.is_current) as (λ b. All P (map (λ y. y.id) (cond (not b) (x ∷ filter (λ y. not y.is_current) xs) (filter (λ y. not y.is_current) xs)))) [
          | true ↦ later
          | false ↦ All-cons P x.id (outdated xs) (or_left (eqb x.id x.id) (is_id xs x.id) (eq-eqb x.id x.id refl)) later
        ]

-- where each outdated entry is held, only those that become so are marked
pub marks-dependents : (keys : List Key) (es : List EntryState) (q : QueueState) → All (λ e. e.is_current ≡ false → is_held q e.id ≡ true) es
    → after_marks q (outdated (map (after_change keys) es)) ≡ after_marks q (dependents keys es)
marks-dependents keys [] q waiting = refl
marks-dependents keys (e ∷ es) q waiting = by (marks-dependents keys es) e.is_current (depends_on keys e) refl
  where
    rest : List EntryState
    rest = filter (λ x. not x.is_current) (map (after_change keys) es)

    depending : List EntryState
    depending = filter (λ x. x.is_current && depends_on keys x) es

    Waiting : QueueState → EntryState → Type 0
    Waiting w x = x.is_current ≡ false → is_held w x.id ≡ true

    later : All (Waiting q) es
    later = All-tail (Waiting q) e es waiting

    by : ((w : QueueState) → All (Waiting w) es → after_marks w (outdated (map (after_change keys) es)) ≡ after_marks w (dependents keys es)) → (b d : Bool) → e.is_current ≡ b
        → after_marks q (map (λ x. x.id) (cond (not (b && not d)) (after_change keys e ∷ rest) rest)) ≡ after_marks q (map (λ x. x.id) (cond (b && d) (e ∷ depending) depending))
    by recur true true current =
        recur (after_mark q e.id)
        (All-weaker (Waiting q) (Waiting (after_mark q e.id)) (λ x held out_of_date. is_held-after_mark q e.id x.id ∙ or_right (eqb x.id e.id) (is_held q x.id) (held out_of_date)) es later)
    by recur true false current = recur q later
    by recur false d out_of_date =
        ap (λ w. after_marks w (outdated (map (after_change keys) es))) (cond-true (is_held q e.id) q (record q { queued = q.queued ++ e.id ∷ [] }) (All-head (Waiting q) e es waiting out_of_date))
        ∙ recur q later

-- the ids of the first outdated entries are marked
pub record AreMarked (es : List EntryState) (old : QueueState) (i : ℕ) (q : QueueState) : Type 0 where
  pub rest : after_marks q (outdated (drop i es)) ≡ after_marks old (outdated es)
  pub among : IsQueueAmong es q
  pub space : length es ≤ q.capacity

-- an entry in a place is one of them
pub own_id : (es : List EntryState) (i : ℕ) (e : EntryState) → i < length es → e ≡ get_or es i e → is_id es e.id ≡ true
own_id es i e within is =
    list_any_at (λ (x : EntryState). eqb x.id e.id) es i e within (eq-eqb (get_or es i e).id e.id (sym (ap (λ (x : EntryState). x.id) is)))

pub AreMarked-more : (es : List EntryState) (old : QueueState) (i : ℕ) (q : QueueState) (e : EntryState) → InOrder es → i < length es → e ≡ get_or es i e
    → AreMarked es old i q → (new : QueueState) → (e.is_current ≡ false → new ≡ after_mark q e.id) → (e.is_current ≡ true → new ≡ q)
    → AreMarked es old (i + 1) new
AreMarked-more es old i q e order within is so new marks keeps =
    let tail = drop (i + 1) es in
    let step : outdated (drop i es) ≡ outdated (e ∷ tail) = at_drop_more outdated es i e within ∙ ap (λ (x : EntryState). outdated (x ∷ tail)) (sym is) in
    let first = λ (b : Bool). map (λ (x : EntryState). x.id) (cond (not b) (e ∷ filter (λ x. not x.is_current) tail) (filter (λ x. not x.is_current) tail)) in
    elim (cases_Bool e.is_current) [
      | inl current ↦
          let rest = step ∙ ap first current in
          subst (AreMarked es old (i + 1)) (sym (keeps current)) (record { rest = ap (after_marks q) (sym rest) ∙ so.rest; among = so.among; space = so.space })
      | inr out_of_date ↦
          let rest = step ∙ ap first out_of_date in
          subst (AreMarked es old (i + 1)) (sym (marks out_of_date)) (record {
            rest = ap (after_marks q) (sym rest) ∙ so.rest;
            among = IsQueueAmong-mark es q e.id order so.among so.space (own_id es i e within is);
            space = omega (arith, so.space, capacity-mark q e.id);
          })
    ]

-- ---- the first id

first-is : (ks : List ℕ) (id : ℕ) → first_of ks ≡ Ok id → (rest : List ℕ) × (ks ≡ id ∷ rest)
first-is [] id first = absurd (err-ok first)
  where
    err-ok : first_of [] ≡ Ok id → ⊥
    err-ok same = cc
first-is (k ∷ ks) id first = (ks, ap (λ n. n ∷ ks) (same_Some k id (ap result_ok first)))

-- the first of the queued ids is held
pub first-held : (q : QueueState) (id : ℕ) → first_of q.queued ≡ Ok id → is_held q id ≡ true
first-held q id first =
    let front = first-is q.queued id first in
    or_left (is_queued q id) (is_leased q id) (ap (list_any (eqb id)) front.1 ∙ or_left (eqb id id) (list_any (eqb id) front.0) (eq-eqb id id refl))

-- and is not leased
pub first-idle : (es : List EntryState) (q : QueueState) (id : ℕ) → IsQueueAmong es q → first_of q.queued ≡ Ok id → is_leased q id ≡ false
first-idle es q id so first =
    let front = first-is q.queued id first in
    let queued : is_queued q id ≡ true = ap (list_any (eqb id)) front.1 ∙ or_left (eqb id id) (list_any (eqb id) front.0) (eq-eqb id id refl) in
    elim (cases_Bool (is_leased q id)) [
      | inl is ↦ absurd (true≢false (sym queued ∙ so.apart id is))
      | inr other ↦ other
    ]

-- the first of the queued ids is queued
pub first-queued : (ids : List ℕ) (id : ℕ) → first_of ids ≡ Ok id → list_any (eqb id) ids ≡ true
first-queued [] id first = cc
first-queued (x ∷ rest) id first = let same : x ≡ id = cc in ap (λ b. b || list_any (eqb id) rest) (eq-eqb id x (sym same))

-- a lease that is given back at once leaves the queue as it was
pub give_back-lease : (es : List EntryState) (q : QueueState) (id : ℕ) → IsQueueAmong es q → first_of q.queued ≡ Ok id → after_give_back (after_lease q) id ≡ q
give_back-lease es q id so first =
    let front = first-is q.queued id first in
    let ks = front.0 in
    let leased : QueueState = record q { queued = ks; leased = set.insert q.leased id } in
    let idle = first-idle es q id so first in
    ap (λ xs. after_give_back (with_first_leased q xs) id) front.1
    ∙ cond-true (is_leased leased id) (record leased { queued = id ∷ ks; leased = set.remove (set.insert q.leased id) id }) leased
    (contains-insert q.leased id id ∙ or_left (eqb id id) (is_leased q id) (eq-eqb id id refl))
    ∙ (λ i. record q { queued = sym front.1 i; leased = remove-insert q.leased id idle i })
