-- Each change of a queue's state keeps it consistent: no id twice, none both queued and leased, and all within the capacity.
use Rattle.std.proofs.Common.{◌≡◌, ℕ, ◌+◌, ◌<◌, ◌≤◌, Bool, true, false, cond, not, ◌&&◌, ◌||◌, eqb, ltb, List, [], ◌∷◌, ◌++◌, length, refl, sym, ap, subst, ◌∙◌, arith, inl, inr, ◌⊎◌, true≢false, filter}
use Rattle.std.specs.List.{list_any, AllByRecursion, IsDistinct}
use Rattle.std.specs.Ordering.{nat_cmp}
use Rattle.std.specs.Cmp.{nat_eq_equiv}
use Rattle.std.specs.FinSet as set
use Rattle.std.specs.VecDeque.{deque_capacity}
use Rattle.std.proofs.lemmas.Bool.{or_cases, or_left, or_right, or_from, or_parts, and_parts, cases_Bool, eq-eqb, cond-false, cond-true, lt-ltb, ltb-true}
use Rattle.std.proofs.lemmas.List.{length_push}
use Rattle.std.proofs.lemmas.List.Folds.{list_any-append}
use Rattle.std.proofs.lemmas.List.Filters.{length-filter_both}
use Rattle.std.proofs.lemmas.Map.Keys.{IsDistinct-cons, IsDistinct-tail, IsDistinct-push}
use Rattle.std.proofs.lemmas.Map.Views.{exact_unsigned_eq}
use Rattle.indexmap.specs.IndexMap.{index_map_len, spare}
use Rattle.sipl_repair.specs.StalePlaces.{stale_count, AreCounted}
use Rattle.sipl_repair.specs.Queue.{state_of, IsValidQueue}
use Rattle.sipl_repair.specs.QueueState.{QueueState, IsConsistent, is_queued, is_leased, has_capacity_for, after_mark, empty_queue}
use Rattle.sipl_repair.specs.declared.queue.Queue.TheInside.{Inside}
use Rattle.sipl_repair.proofs.Members.{NatSet, from_list-without, contains-from_list, contains-insert, contains-remove, len-from_list, len-insert_le, len-remove_le, len-remove_lt, head_is_new, passes_second}

-- the state with these ids queued, these leased, and this capacity
abbrev pub queue_of : List ℕ → NatSet → ℕ → QueueState
queue_of ks s r = record { queued = ks; leased = s; capacity = r }

-- an id that is not in a list differs from each in it
pub differs_from_each : (k : ℕ) (xs : List ℕ) → list_any (eqb k) xs ≡ false → AllByRecursion (λ y. eqb k y ≡ false) xs
differs_from_each k [] h = tt
differs_from_each k (x ∷ xs) h = let parts = or_parts _ _ h in (parts.0, differs_from_each k xs parts.1)

-- a leased id differs from one that is not leased
apart_from_new : (s : NatSet) (k id : ℕ) → set.contains s k ≡ false → set.contains s id ≡ true → eqb id k ≡ false
apart_from_new s k id idle leased =
    elim (eqb id k) as (λ b. eqb id k ≡ b → b ≡ false) [
      | true ↦ λ e. absurd (true≢false (sym leased ∙ ap (set.contains s) (exact_unsigned_eq id k e) ∙ idle))
      | false ↦ λ _. refl
    ] refl

-- an id that is leased after a removal was leased before
pub still_leased : (s : NatSet) (k id : ℕ) → set.contains (set.remove s k) id ≡ true → set.contains s id ≡ true
still_leased s k id leased = (and_parts _ _ (sym (contains-remove s k id) ∙ leased)).1

-- what is not in a list is not in a filter of it
list_any-filter_none : (t p : ℕ → Bool) (xs : List ℕ) → list_any t xs ≡ false → list_any t (filter p xs) ≡ false
list_any-filter_none t p [] h = refl
list_any-filter_none t p (x ∷ xs) h =
    let parts = or_parts _ _ h in
    elim (p x) as (λ b. list_any t (cond b (x ∷ filter p xs) (filter p xs)) ≡ false) [
      | true ↦ or_from _ _ parts.0 (list_any-filter_none t p xs parts.1)
      | false ↦ list_any-filter_none t p xs parts.1
    ]

IsDistinct-filter : (p : ℕ → Bool) (xs : List ℕ) → IsDistinct eqb xs → IsDistinct eqb (filter p xs)
IsDistinct-filter p [] h = h
IsDistinct-filter p (x ∷ xs) h =
    let rest = IsDistinct-filter p xs (IsDistinct-tail eqb x xs h) in
    elim (p x) as (λ b. IsDistinct eqb (cond b (x ∷ filter p xs) (filter p xs))) [
      | true ↦ IsDistinct-cons eqb x (filter p xs) (differs_from_each x _ (list_any-filter_none (eqb x) p xs (head_is_new x xs h))) rest
      | false ↦ rest
    ]

pub length-filter_le : (p : ℕ → Bool) (xs : List ℕ) → length (filter p xs) ≤ length xs
length-filter_le p xs = omega (arith, length-filter_both p (λ x. not (p x)) (λ _. refl) xs)

module _ (ks : List ℕ) (s : NatSet) (r k : ℕ) where
  -- an idle id is appended
  pub IsConsistent-push : IsConsistent (queue_of ks s r) → list_any (eqb k) ks ≡ false → set.contains s k ≡ false → length ks + set.len s < r → IsConsistent (queue_of (ks ++ k ∷ []) s r)
  IsConsistent-push h new idle fits =
      record {
        distinct = IsDistinct-push nat_eq_equiv ks k h.distinct new;
        apart = λ id leased. list_any-append (eqb id) ks (k ∷ []) ∙ or_from _ _ (h.apart id leased) (or_from _ _ (apart_from_new s k id idle leased) refl);
        within = omega (arith, length_push ks k);
      }

  -- an idle id is prepended
  pub IsConsistent-cons : IsConsistent (queue_of ks s r) → list_any (eqb k) ks ≡ false → set.contains s k ≡ false → length ks + set.len s < r → IsConsistent (queue_of (k ∷ ks) s r)
  IsConsistent-cons h new idle fits =
      record {
        distinct = IsDistinct-cons eqb k ks (differs_from_each k ks new) h.distinct;
        apart = λ id leased. or_from _ _ (apart_from_new s k id idle leased) (h.apart id leased);
        within = omega arith;
      }

  -- the first queued id is leased
  pub IsConsistent-lease : IsConsistent (queue_of (k ∷ ks) s r) → IsConsistent (queue_of ks (set.insert s k) r)
  IsConsistent-lease h =
      record {
        distinct = IsDistinct-tail eqb k ks h.distinct;
        apart = λ id leased. by id (or_cases _ _ (sym (contains-insert s k id) ∙ leased));
        within = omega (arith, len-insert_le s k);
      }
    where
      by : (id : ℕ) → (eqb id k ≡ true) ⊎ (set.contains s id ≡ true) → list_any (eqb id) ks ≡ false
      by id (inl e) = ap (λ x. list_any (eqb x) ks) (exact_unsigned_eq id k e) ∙ head_is_new k ks h.distinct
      by id (inr leased) = (or_parts _ _ (h.apart id leased)).1

  -- an id is no longer leased
  pub IsConsistent-remove : IsConsistent (queue_of ks s r) → IsConsistent (queue_of ks (set.remove s k) r)
  IsConsistent-remove h =
      record {
        distinct = h.distinct;
        apart = λ id leased. h.apart id (still_leased s k id leased);
        within = omega (arith, len-remove_le s k);
      }

  -- an id is no longer queued, and no longer leased
  pub IsConsistent-without : IsConsistent (queue_of ks s r) → IsConsistent (queue_of (filter (λ q. not (eqb q k)) ks) (set.remove s k) r)
  IsConsistent-without h =
      record {
        distinct = IsDistinct-filter (λ q. not (eqb q k)) ks h.distinct;
        apart = λ id leased. list_any-filter_none (eqb id) (λ q. not (eqb q k)) ks (h.apart id (still_leased s k id leased));
        within = omega (arith, len-remove_le s k, length-filter_le (λ q. not (eqb q k)) ks);
      }

-- a removed id is no member
not_removed : (s : NatSet) (k : ℕ) → set.contains (set.remove s k) k ≡ false
not_removed s k = contains-remove s k k ∙ ap (λ b. not b && set.contains s k) (eq-eqb k k refl)

module _ (ks : List ℕ) (s : NatSet) (r k : ℕ) (h : IsConsistent (queue_of ks s r)) (leased : set.contains s k ≡ true) where
  -- a leased id is appended to the queued ones, or prepended
  pub IsConsistent-requeue : IsConsistent (queue_of (ks ++ k ∷ []) (set.remove s k) r)
  IsConsistent-requeue =
      IsConsistent-push ks (set.remove s k) r k (IsConsistent-remove ks s r k h) (h.apart k leased) (not_removed s k)
      (omega (arith, h.within, len-remove_lt s k leased))

  pub IsConsistent-give_back : IsConsistent (queue_of (k ∷ ks) (set.remove s k) r)
  IsConsistent-give_back =
      IsConsistent-cons ks (set.remove s k) r k (IsConsistent-remove ks s r k h) (h.apart k leased) (not_removed s k)
      (omega (arith, h.within, len-remove_lt s k leased))

IsDistinct-nil : IsDistinct eqb []
unfolding IsDistinct
IsDistinct-nil = tt

-- a filter that drops what is not in a list leaves the list
pub filter-absent : (ks : List ℕ) (k : ℕ) → list_any (eqb k) ks ≡ false → filter (λ q. not (eqb q k)) ks ≡ ks
filter-absent [] k absent = refl
filter-absent (x ∷ ks) k absent =
    let parts = or_parts _ _ absent in
    cond-true _ _ _ (ap not (nat_eq_equiv.symm x k ∙ parts.0)) ∙ ap (λ xs. x ∷ xs) (filter-absent ks k parts.1)

-- a new queue is consistent
pub IsConsistent-empty : IsConsistent empty_queue
IsConsistent-empty = record { distinct = IsDistinct-nil; apart = λ id leased. refl; within = omega (arith, set.len-empty nat_cmp) }

-- the fields of a queue with these ids are valid
pub sound : (q : Inside) (ks : List ℕ) (s : NatSet) → (state_of q).queued ≡ ks → q.leased.members ≡ s → IsConsistent (queue_of ks s q.capacity) → q.queued.members ≡ set.from_list ks
    → AreCounted q.places.items (stale_count q.stale) → ((id : ℕ) → set.contains s id ≡ true → stale_count q.stale id ≡ 0)
    → length q.places.items + q.capacity ≤ deque_capacity q.places + length ks → q.capacity ≤ deque_capacity q.places
    → (0 < q.capacity → 0 < spare q.stale) → q.capacity ≤ index_map_len q.stale + spare q.stale
    → q.capacity ≤ q.queued.capacity → q.capacity ≤ q.leased.capacity → IsValidQueue q
sound q ks s in_order leased h same_ids counted none_stale places_fit places_capacity stale_fits stale_capacity queued_capacity leased_capacity =
    record {
      consistent = subst (λ xs. IsConsistent (queue_of xs q.leased.members q.capacity)) (sym in_order) (subst (λ t. IsConsistent (queue_of ks t q.capacity)) (sym leased) h);
      same_ids = same_ids ∙ ap set.from_list (sym in_order);
      counted = counted;
      leased_fresh = λ id there. none_stale id (sym (ap (λ t. set.contains t id) leased) ∙ there);
      places_fit = omega (arith, places_fit, ap length in_order);
      places_capacity = places_capacity;
      stale_fits = stale_fits;
      stale_capacity = stale_capacity;
      queued_capacity = queued_capacity;
      leased_capacity = leased_capacity;
    }

-- a list with an id in it is not empty
pub length_of_queued : (ks : List ℕ) (id : ℕ) → list_any (eqb id) ks ≡ true → 0 < length ks
length_of_queued [] id there = absurd (true≢false (sym there))
length_of_queued (k ∷ ks) id there = omega arith

-- the members of the set of queued ids, and how many
pub contains-queued : (q : Inside) → IsValidQueue q → (id : ℕ) → set.contains q.queued.members id ≡ is_queued (state_of q) id
contains-queued q h id = ap (λ s. set.contains s id) h.same_ids ∙ contains-from_list _ id

pub len-queued : (q : Inside) → IsValidQueue q → set.len q.queued.members ≡ length (state_of q).queued
len-queued q h = ap set.len h.same_ids ∙ len-from_list _ h.consistent.distinct

-- where the queued ids are below the capacity, the set of queued ids has space for one more
pub may_queue : (q : Inside) → IsValidQueue q → (id : ℕ) → length (state_of q).queued < q.capacity → (set.contains q.queued.members id || ltb (set.len q.queued.members) q.queued.capacity) ≡ true
may_queue q h id less =
    let below : set.len q.queued.members < q.queued.capacity = omega (arith, len-queued q h, h.queued_capacity) in
    or_right _ _ (lt-ltb _ _ below)

module _ (q : Inside) (w : QueueState) (id : ℕ) (h : IsValidQueue q) (shown : state_of q ≡ w) (may : has_capacity_for w id ≡ true) (idle : set.contains q.leased.members id ≡ false) where
  -- a mark of an idle id is within the capacity
  pub mark_fits : is_queued (state_of q) id ≡ false → length (state_of q).queued + set.len q.leased.members < q.capacity
  mark_fits absent = ltb-true _ _ (passes_second _ _ (or_from _ _ absent idle) (ap (λ v. has_capacity_for v id) shown ∙ may))

  -- the set of queued ids has space for it
  pub may_mark : (set.contains q.queued.members id || ltb (set.len q.queued.members) q.queued.capacity) ≡ true
  may_mark =
      elim (cases_Bool (is_queued (state_of q) id)) [
        | inl there ↦ or_left _ _ (contains-queued q h id ∙ there)
        | inr absent ↦ let fits = mark_fits absent in may_queue q h id (omega arith)
      ]

-- how many ids are queued after one is forgotten
pub len-forget : (q : Inside) → IsValidQueue q → (id : ℕ) (s : NatSet) → s ≡ set.remove q.queued.members id → set.len s ≡ length (filter (λ k. not (eqb k id)) (state_of q).queued)
len-forget q h id s removed =
    let ks = (state_of q).queued in
    ap set.len (removed ∙ ap (λ m. set.remove m id) h.same_ids ∙ sym (from_list-without ks id))
    ∙ len-from_list _ (IsDistinct-filter (λ k. not (eqb k id)) ks h.consistent.distinct)

-- a mark of an idle id, and of a queued one
pub after_mark-idle : (w : QueueState) (id : ℕ) → is_queued w id ≡ false → is_leased w id ≡ false → after_mark w id ≡ record w { queued = w.queued ++ id ∷ [] }
after_mark-idle w id absent idle = cond-false _ _ _ (or_from _ _ absent idle)

pub after_mark-queued : (w : QueueState) (id : ℕ) → is_queued w id ≡ true → after_mark w id ≡ w
after_mark-queued w id there = cond-true _ _ _ (or_left _ _ there)

-- a leased id is within the capacity when it is queued again
pub returned_fits : (q : Inside) → IsValidQueue q → (id : ℕ) → set.contains q.leased.members id ≡ true → length (state_of q).queued < q.capacity
returned_fits q h id leased = omega (arith, h.consistent.within, len-remove_lt q.leased.members id leased)
