-- The entries with their queue: each call leaves the queue that of the entries.
use Rattle.std.proofs.Common.{◌≡◌, ◌≢◌, ℕ, ◌+◌, ◌<◌, ◌≤◌, Bool, true, false, not, ◌&&◌, ◌||◌, cond, eqb, suc, List, [], ◌∷◌, ◌++◌, map, length, filter, None, Some, refl, sym, ap, subst, ◌∙◌, arith, true≢false, length-append}
use Rattle.std.specs.FinSet.{contains-empty}
use Rattle.std.specs.List.{All, AllPairs}
use Rattle.std.specs.Ordering.{nat_cmp}
use Rattle.std.proofs.Math.ListN.{length-map}
use Rattle.std.proofs.lemmas.Bool.{cond_both, and_parts, or_left}
use Rattle.std.proofs.lemmas.List.Elements.{All-nil, All-cons, All-head, All-tail, All-map, All-push, All-weaker}
use Rattle.std.proofs.lemmas.List.Filters.{length-filter_both}
use Rattle.std.proofs.lemmas.List.Folds.{list_any-append}
use Rattle.std.proofs.lemmas.Bool.Decides.{not_from_Decides}
use Rattle.std.proofs.lemmas.Map.Views.{any-filter_same, exact_unsigned_eq}
use Rattle.std.proofs.lemmas.Option.{same_Some}
use Rattle.sipl_records.proofs.Public.{All-filter_weaker}
use Rattle.sipl_records.specs.declared.record.Key.{Key}
use Rattle.sipl_uri.specs.declared.question.Question.{Question}
use Rattle.sipl_plans.specs.Findings.{Found}
use Rattle.sipl_repair.specs.QueueState.{QueueState, IsConsistent, is_queued, is_leased, is_held, empty_queue, after_reserve, after_lease, with_first_leased, after_settle, after_requeue, after_give_back, after_forget}
use Rattle.sipl_repair.proofs.Public.{IsConsistent-empty, is_held-after_lease, is_held-after_settle, is_held-after_requeue, is_held-after_give_back, is_held-after_forget, IsConsistent-after_lease, IsConsistent-after_settle, IsConsistent-after_requeue, IsConsistent-after_give_back, IsConsistent-after_forget}
use Rattle.sipl_book.specs.Cache.{InOrder, IsCache}
use Rattle.sipl_book.specs.Entries.{EntryState, is_of, entry_of, after_change, renewed}
use Rattle.sipl_book.specs.Repairs.{IsQueueAmong, after_marks, is_outdated, outdated, without}
use Rattle.sipl_book.proofs.Committed.{AllPairs-map, current, is_of_decides, absent_from_entry_of, renewed_cases, id-renewed}
use Rattle.sipl_book.proofs.Ids.{differ, is_id, eqb-swap, not_outdated, other_ids}
use Rattle.sipl_book.proofs.Removing.{without-absent}
use Rattle.sipl_book.proofs.Queues.{consistent, capacity-marks, IsQueueOf-marks}
use Rattle.sipl_book.proofs.Waiting.{AreOutdated, outdated-added, outdated-after_change, outdated-give_back, outdated-lease, outdated-renewed, outdated-requeue, outdated-without}

-- what is held waits
abbrev Waits : QueueState → EntryState → Type 0
Waits q e = e.is_current ≡ false → is_held q e.id ≡ true

-- ---- the same ids

is_id-map : (f : EntryState → EntryState) → ((e : EntryState) → (f e).id ≡ e.id) → (es : List EntryState) (id : ℕ) → is_id (map f es) id ≡ is_id es id
is_id-map f same [] id = refl
is_id-map f same (e ∷ es) id = λ i. eqb (same e i) id || is_id-map f same es id i

-- entries with the same ids in order stay in order
pub InOrder-after_change : (keys : List Key) (es : List EntryState) → InOrder es → InOrder (map (after_change keys) es)
InOrder-after_change keys es order = AllPairs-map (after_change keys) (λ a b. a.id < b.id) (λ a b. a.id < b.id) (λ a b below. below) es order

-- the queue is among entries with the same ids
among_same : (f : EntryState → EntryState) → ((e : EntryState) → (f e).id ≡ e.id) → (es : List EntryState) (q : QueueState) → IsQueueAmong es q → IsQueueAmong (map f es) q
among_same f same es q so =
    record { distinct = so.distinct; apart = so.apart; of_entries = λ k held. is_id-map f same es k ∙ so.of_entries k held }

-- ---- a new cache, and an edit

pub IsCache-new : IsCache [] empty_queue
IsCache-new =
    record {
      waits = record {
        among = record { distinct = IsConsistent-empty.distinct; apart = IsConsistent-empty.apart; of_entries = λ k held. absurd (true≢false (sym held ∙ contains-empty nat_cmp k)) };
        outdated = λ id queued. absurd (true≢false (sym queued));
        waiting = All-nil (Waits empty_queue);
      };
      space = omega arith;
    }

module _ (keys : List Key) (es : List EntryState) (q : QueueState) (order : InOrder es) (so : IsCache es q) where
  -- the queue is among the entries after a change
  pub among-after_change : IsQueueAmong (map (after_change keys) es) q
  among-after_change = among_same (after_change keys) (λ e. refl) es q so.waits.among

  pub space-after_change : length (map (after_change keys) es) ≤ q.capacity
  space-after_change = omega (arith, length-map es (after_change keys), so.space)

  pub IsCache-after_change : IsCache (map (after_change keys) es) (after_marks q (outdated (map (after_change keys) es)))
  IsCache-after_change =
      record {
        waits = IsQueueOf-marks (map (after_change keys) es) q (InOrder-after_change keys es order) among-after_change
            (λ id queued. outdated-after_change keys es id (so.waits.outdated id queued)) space-after_change;
        space = omega (arith, space-after_change, capacity-marks q (outdated (map (after_change keys) es)));
      }

-- ---- leases

-- a queue that holds the same ids is that of the same entries
same_held : (es : List EntryState) (q new : QueueState) → IsCache es q → IsConsistent new → AreOutdated es new → ((k : ℕ) → is_held new k ≡ is_held q k) → new.capacity ≡ q.capacity
    → IsCache es new
same_held es q new so good queued same capacity =
    record {
      waits = record {
        among = record { distinct = good.distinct; apart = good.apart; of_entries = λ k held. so.waits.among.of_entries k (sym (same k) ∙ held) };
        outdated = queued;
        waiting = All-weaker (Waits q) (Waits new) (λ e waits out_of_date. same e.id ∙ waits out_of_date) es so.waits.waiting;
      };
      space = omega (arith, so.space, capacity);
    }

module _ (es : List EntryState) (q : QueueState) (order : InOrder es) (so : IsCache es q) where
  is_good : IsConsistent q
  is_good = consistent es q order so.waits.among so.space

  pub IsCache-lease : IsCache es (after_lease q)
  IsCache-lease = same_held es q (after_lease q) so (IsConsistent-after_lease q is_good) (outdated-lease es q so.waits.outdated q.queued refl) (is_held-after_lease q) (capacity q.queued)
    where
      capacity : (ks : List ℕ) → (with_first_leased q ks).capacity ≡ q.capacity
      capacity [] = refl
      capacity (k ∷ ks) = refl

  pub IsCache-requeue : (id : ℕ) → is_outdated es id ≡ true → IsCache es (after_requeue q id)
  IsCache-requeue id own =
      same_held es q (after_requeue q id) so (IsConsistent-after_requeue q id is_good) (outdated-requeue es q id so.waits.outdated own) (is_held-after_requeue q id)
      (cond_both (is_leased q id) _ q (λ (w : QueueState). w.capacity ≡ q.capacity) (λ _. refl) (λ _. refl))

  pub IsCache-give_back : (id : ℕ) → is_outdated es id ≡ true → IsCache es (after_give_back q id)
  IsCache-give_back id own =
      same_held es q (after_give_back q id) so (IsConsistent-after_give_back q id is_good) (outdated-give_back es q id so.waits.outdated own) (is_held-after_give_back q id)
      (cond_both (is_leased q id) _ q (λ (w : QueueState). w.capacity ≡ q.capacity) (λ _. refl) (λ _. refl))

-- an entry of a question has the id of the one that is found
pub own_ids : (question : Question) (es : List EntryState) (own : EntryState) → AllPairs (λ a b. a.found.question ≢ b.found.question) es
    → entry_of es question ≡ Some own → All (λ e. e.found.question ≡ question → e.id ≡ own.id) es
own_ids question [] own apart is = All-nil (λ e. e.found.question ≡ question → e.id ≡ own.id)
own_ids question (x ∷ es) own apart is =
    let Own : EntryState → Type 0 = λ e. e.found.question ≡ question → e.id ≡ own.id in
    let rest : AllPairs (λ a b. a.found.question ≢ b.found.question) es = λ i j d below within. apart (suc i) (suc j) d (omega arith) (omega arith) in
    elim (is_of question x) as (λ b. is_of question x ≡ b → cond b (Some x) (entry_of es question) ≡ Some own → All Own (x ∷ es)) [
      | true ↦ λ mine first.
          All-cons Own x es (λ _. ap (λ (e : EntryState). e.id) (same_Some x own first))
          (λ k d within same. absurd (apart 0 (suc k) d (omega arith) (omega arith) ((is_of_decides question x).0 mine ∙ sym same)))
      | false ↦ λ other later.
          All-cons Own x es (λ same. absurd (true≢false (sym ((is_of_decides question x).1 same) ∙ other))) (own_ids question es own rest later)
    ] refl is

pub was_false : (b : Bool) → not b ≡ true → b ≡ false
was_false true is = absurd (true≢false (sym is))
was_false false is = refl

-- ---- a settlement

held_before : (a b c : Bool) → (a || (b && c)) ≡ true → (a || c) ≡ true
held_before true b c held = refl
held_before false true c held = held
held_before false false c held = absurd (true≢false (sym held))

held_after : (a b c : Bool) → b ≡ false → (a || c) ≡ true → (a || (not b && c)) ≡ true
held_after true b c other held = refl
held_after false true c other held = absurd (true≢false other)
held_after false false c other held = held

settled-before : (q : QueueState) (id k : ℕ) → is_held (after_settle q id) k ≡ true → is_held q k ≡ true
settled-before q id k held = held_before (is_queued q k) (not (eqb k id)) (is_leased q k) (sym (is_held-after_settle q id k) ∙ held)

settled-after : (q : QueueState) (id k : ℕ) → eqb k id ≡ false → is_held q k ≡ true → is_held (after_settle q id) k ≡ true
settled-after q id k other held = is_held-after_settle q id k ∙ held_after (is_queued q k) (eqb k id) (is_leased q k) other held

-- an id that is not that of an entry that waits is settled
pub IsCache-settle : (es : List EntryState) (q : QueueState) (id : ℕ) → InOrder es → IsCache es q → is_outdated es id ≡ false → IsCache es (after_settle q id)
IsCache-settle es q id order so none =
    let good = IsConsistent-after_settle q id (consistent es q order so.waits.among so.space) in
    let others = not_outdated es id none in
    record {
      waits = record {
        among = record { distinct = good.distinct; apart = good.apart; of_entries = λ k held. so.waits.among.of_entries k (settled-before q id k held) };
        outdated = so.waits.outdated;
        waiting = λ i d within out_of_date. settled-after q id _ (others i d within out_of_date) (so.waits.waiting i d within out_of_date);
      };
      space = so.space;
    }

-- the id of the entry that gets a finding is settled
pub IsCache-settled : (found : Found) (es : List EntryState) (q : QueueState) (own : EntryState) → InOrder es → AllPairs (λ a b. a.found.question ≢ b.found.question) es
    → IsCache es q → is_leased q own.id ≡ true → entry_of es found.question ≡ Some own
    → IsCache (map (renewed found) es) (after_settle q own.id)
IsCache-settled found es q own order apart so leased is =
    let mine = own_ids found.question es own apart is in
    let good = IsConsistent-after_settle q own.id (consistent es q order so.waits.among so.space) in
    let others = other_ids found.question es own order is in
    let among = among_same (renewed found) (id-renewed found) es q so.waits.among in
    record {
      waits = record {
        among = record { distinct = good.distinct; apart = good.apart; of_entries = λ k held. among.of_entries k (settled-before q own.id k held) };
        outdated = λ k queued. outdated-renewed found es own.id mine k
            (differ k own.id (λ same. true≢false (sym queued ∙ ap (is_queued q) same ∙ so.waits.among.apart own.id leased)))
            (so.waits.outdated k queued);
        waiting = All-map (Waits (after_settle q own.id)) (renewed found) es (λ i d within.
            renewed_cases found _ (Waits (after_settle q own.id)) (λ _ out_of_date. absurd (true≢false out_of_date))
            (λ other out_of_date. settled-after q own.id _ (others i d within other) (so.waits.waiting i d within out_of_date)));
      };
      space = omega (arith, length-map es (renewed found), so.space);
    }

-- ---- a commit

pub IsCache-reserve : (es : List EntryState) (q : QueueState) (n : ℕ) → IsCache es q → IsCache es (after_reserve q n)
IsCache-reserve es q n so =
    record {
      waits = record {
        among = record { distinct = so.waits.among.distinct; apart = so.waits.among.apart; of_entries = so.waits.among.of_entries };
        outdated = so.waits.outdated;
        waiting = so.waits.waiting;
      };
      space = omega (arith, so.space);
    }

-- the queue without an id that may be queued
abbrev pub unqueued : QueueState → ℕ → QueueState
unqueued q id = record q { queued = filter (λ k. not (eqb k id)) q.queued }

queued-unqueued : (q : QueueState) (id k : ℕ) → is_queued (unqueued q id) k ≡ (not (eqb k id) && is_queued q k)
queued-unqueued q id k = any-filter_same (eqb k) (λ x. not (eqb x id)) (not (eqb k id)) (λ x same. ap (λ n. not (eqb n id)) (sym (exact_unsigned_eq k x same))) q.queued

unqueued_before : (a b c : Bool) → ((a && b) || c) ≡ true → (b || c) ≡ true
unqueued_before true b c held = held
unqueued_before false true c held = refl
unqueued_before false false c held = held

unqueued_after : (a b c : Bool) → a ≡ false → (b || c) ≡ true → ((not a && b) || c) ≡ true
unqueued_after true b c other held = absurd (true≢false other)
unqueued_after false b c other held = held

and_false : (a b : Bool) → b ≡ false → (a && b) ≡ false
and_false true b none = none
and_false false b none = refl

module _ (es : List EntryState) (q : QueueState) (id : ℕ) (order : InOrder es) (so : IsCache es q) where
  among-unqueued : IsQueueAmong es (unqueued q id)
  among-unqueued =
      record {
        distinct = (IsConsistent-after_forget q id (consistent es q order so.waits.among so.space)).distinct;
        apart = λ k leased. queued-unqueued q id k ∙ and_false (not (eqb k id)) (is_queued q k) (so.waits.among.apart k leased);
        of_entries = λ k held. so.waits.among.of_entries k
            (unqueued_before (not (eqb k id)) (is_queued q k) (is_leased q k) (ap (λ b. b || is_leased q k) (sym (queued-unqueued q id k)) ∙ held));
      }

  held-unqueued : (k : ℕ) → eqb k id ≡ false → is_held q k ≡ true → is_held (unqueued q id) k ≡ true
  held-unqueued k other held =
      ap (λ b. b || is_leased q k) (queued-unqueued q id k) ∙ unqueued_after (eqb k id) (is_queued q k) (is_leased q k) other held

-- the question's entry gets the finding, and is not queued
pub IsCache-renewed : (found : Found) (es : List EntryState) (q : QueueState) (own : EntryState) → InOrder es → AllPairs (λ a b. a.found.question ≢ b.found.question) es
    → IsCache es q → entry_of es found.question ≡ Some own → IsCache (map (renewed found) es) (unqueued q own.id)
IsCache-renewed found es q own order apart so is =
    let mine = own_ids found.question es own apart is in
    let others = other_ids found.question es own order is in
    record {
      waits = record {
        among = among_same (renewed found) (id-renewed found) es (unqueued q own.id) (among-unqueued es q own.id order so);
        outdated = λ k queued.
            let parts = and_parts (not (eqb k own.id)) (is_queued q k) (sym (queued-unqueued q own.id k) ∙ queued) in
            outdated-renewed found es own.id mine k (was_false (eqb k own.id) parts.0) (so.waits.outdated k parts.1);
        waiting = All-map (Waits (unqueued q own.id)) (renewed found) es (λ i d within.
            renewed_cases found _ (Waits (unqueued q own.id)) (λ _ out_of_date. absurd (true≢false out_of_date))
            (λ other out_of_date. held-unqueued es q own.id order so _ (others i d within other) (so.waits.waiting i d within out_of_date)));
      };
      space = omega (arith, length-map es (renewed found), so.space);
    }

-- a new entry is current
pub IsCache-added : (found : Found) (number : ℕ) (es : List EntryState) (q : QueueState) → IsCache es q → length es + 1 ≤ q.capacity
    → IsCache (es ++ current number found ∷ []) q
IsCache-added found number es q so space =
    record {
      waits = record {
        among = record {
          distinct = so.waits.among.distinct;
          apart = so.waits.among.apart;
          of_entries = λ k held. list_any-append (λ (e : EntryState). eqb e.id k) es (current number found ∷ []) ∙ or_left (is_id es k) _ (so.waits.among.of_entries k held);
        };
        outdated = λ k queued. outdated-added es (current number found) k (so.waits.outdated k queued);
        waiting = All-push (Waits q) es (current number found) so.waits.waiting (λ out_of_date. absurd (true≢false out_of_date));
      };
      space = omega (arith, space, length-append es (current number found ∷ []));
    }

-- ---- the removal of an entry

is_id-without : (question : Question) (es : List EntryState) (k : ℕ) → All (λ e. e.found.question ≡ question → eqb e.id k ≡ false) es
    → is_id (without question es) k ≡ is_id es k
is_id-without question [] k others = refl
is_id-without question (e ∷ es) k others =
    let P : EntryState → Type 0 = λ x. x.found.question ≡ question → eqb x.id k ≡ false in
    by (is_of question e) (is_of_decides question e).0 (All-head P e es others) (is_id-without question es k (All-tail P e es others))
  where
    by : (b : Bool) → (b ≡ true → e.found.question ≡ question) → (e.found.question ≡ question → eqb e.id k ≡ false) → is_id (without question es) k ≡ is_id es k
        → is_id (cond (not b) (e ∷ without question es) (without question es)) k ≡ (eqb e.id k || is_id es k)
    by true mine other rest = rest ∙ ap (λ b. b || is_id es k) (sym (other (mine refl)))
    by false mine other rest = ap (λ b. eqb e.id k || b) rest

not_not : (b : Bool) → b ≡ not (not b)
not_not true = refl
not_not false = refl

pub length-without : (question : Question) (es : List EntryState) → length (without question es) ≤ length es
length-without question es = omega (arith, length-filter_both (λ e. not (is_of question e)) (is_of question) (λ e. not_not (is_of question e)) es)

pub IsCache-removed : (question : Question) (es : List EntryState) (q : QueueState) (own : EntryState) → InOrder es
    → AllPairs (λ a b. a.found.question ≢ b.found.question) es → IsCache es q → entry_of es question ≡ Some own
    → IsCache (without question es) (after_forget q own.id)
IsCache-removed question es q own order apart so is =
    let good = IsConsistent-after_forget q own.id (consistent es q order so.waits.among so.space) in
    let others = other_ids question es own order is in
    let mine = own_ids question es own apart is in
    record {
      waits = record {
        among = record {
          distinct = good.distinct;
          apart = good.apart;
          of_entries = λ k held.
              let parts = and_parts (not (eqb k own.id)) (is_held q k) (sym (is_held-after_forget q own.id k) ∙ held) in
              let other = was_false (eqb k own.id) parts.0 in
              is_id-without question es k (λ i d within same. ap (λ n. eqb n k) (mine i d within same) ∙ eqb-swap own.id k ∙ other)
              ∙ so.waits.among.of_entries k parts.1;
        };
        outdated = λ k queued.
            let parts = and_parts (not (eqb k own.id)) (is_queued q k) (sym (queued-unqueued q own.id k) ∙ queued) in
            outdated-without question es own.id mine k (was_false (eqb k own.id) parts.0) (so.waits.outdated k parts.1);
        waiting = All-filter_weaker (λ e. (e.found.question ≢ question → eqb e.id own.id ≡ false) × Waits q e) (Waits (after_forget q own.id)) (λ e. not (is_of question e))
            (λ e passes facts out_of_date.
            let other = facts.0 (not_from_Decides (is_of question e) (is_of_decides question e) (was_false (is_of question e) passes)) in
            is_held-after_forget q own.id e.id ∙ (λ i. not (other i) && facts.1 out_of_date i))
            es (λ i d within. (others i d within, so.waits.waiting i d within));
      };
      space = omega (arith, so.space, length-without question es);
    }

-- where the question has no entry, nothing is removed
pub IsCache-absent : (question : Question) (es : List EntryState) (q : QueueState) → IsCache es q → entry_of es question ≡ None → IsCache (without question es) q
IsCache-absent question es q so none =
    subst (λ xs. IsCache xs q) (sym (without-absent question es (absent_from_entry_of question es none))) so
