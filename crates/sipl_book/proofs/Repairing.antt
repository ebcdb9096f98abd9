-- Repairs of a book: what a lease and its settlement leave.
use Rattle.std.proofs.Common.{◌≡◌, ◌≢◌, ℕ, zero, suc, ◌+◌, ◌-◌, ◌^◌, Bool, true, false, ◌&&◌, cond, eqb, List, [], ◌∷◌, ◌++◌, length, map, take, drop, Option, None, Some, option_map, Result, Ok, Err, inl, inr, min, position, refl, sym, ap, subst, ◌∙◌, append_assoc, add-zero, arith}
use Rattle.std.specs.FinSet as set
use Rattle.std.specs.Result.{IsOk}
use Rattle.std.proofs.lemmas.Bool.{cond-true, eq-eqb, or_left, and_from}
use Rattle.std.proofs.Math.ListN.{length-map}
use Rattle.std.proofs.Math.Seq.{drop-nil}
use Rattle.std.specs.List.{All, Contains, sum_by}
use Rattle.std.proofs.lemmas.List.{drop-drop, append-nil, take-append-drop}
use Rattle.std.proofs.lemmas.Grind.{common_steps}
use Rattle.std.proofs.lemmas.List.Sums.{sum_by-append, sum_by-cons}
use Rattle.std.proofs.lemmas.List.Elements.{All-contains, All-contains_itself, All-map, All-weaker}
use Rattle.std.proofs.lemmas.Option.{none-some, same_Some}
use Rattle.sipl_plans.specs.Findings.{Found}
use Rattle.sipl_uri.specs.declared.question.Question.{Question}
use Rattle.sipl_repair.specs.QueueState.{QueueState, is_leased, first_of, after_lease, after_settle, after_give_back as after_front, with_first_leased}
use Rattle.sipl_repair.proofs.Public.{contains-insert, remove-insert}
use Rattle.sipl_book.specs.Book.{BookState}
use Rattle.sipl_book.specs.Calls.{CountsLooks, IsSettled, after_give_back, after_settlement, is_renumbered, looks_after, settle_refusal, with_looks}
use Rattle.sipl_book.specs.Entries.{EntryState, entry_of, has_current_entry, is_of, renewed}
use Rattle.sipl_book.specs.Questions.{same_question}
use Rattle.sipl_book.specs.Repairs.{entry_with, is_leased_for, is_outdated, queue_after_give_back}
use Rattle.sipl_book.specs.declared.fault.BookFault.{BookFault}
use Rattle.sipl_book.specs.declared.fault.BookFault.TheVariants.{JournalFull, NotCurrent, Stale, Unknown, Gone, PagesSpent, Queue, Store as OfStore, Board, Memory}
use Rattle.sipl_book.specs.declared.outcome.Uncommitted.{Uncommitted}
use Rattle.sipl_plans.specs.Route.{reads}
use Rattle.sipl_records.specs.Sets.{set_of}
use Rattle.sipl_book.specs.Lookups.{IsLocated, IsOldOrRenewed, IsRenewed, IsRepaired, after_reads, question_with, sets_read}
use Rattle.sipl_book.proofs.Committed.{id-renewed, question-renewed, renewed_cases}
use Rattle.sipl_book.proofs.Locating.{located-as, not_renumbered}

-- ---- the entries

ids-renewed : (found : Found) (es : List EntryState) → map (λ e. e.id) (map (renewed found) es) ≡ map (λ e. e.id) es
ids-renewed found [] = refl
ids-renewed found (e ∷ es) = λ i. id-renewed found e i ∷ ids-renewed found es i

questions-renewed : (found : Found) (es : List EntryState) → map (λ e. e.found.question) (map (renewed found) es) ≡ map (λ e. e.found.question) es
questions-renewed found [] = refl
questions-renewed found (e ∷ es) = λ i. question-renewed found e i ∷ questions-renewed found es i

-- a current entry is so still
current-renewed : (found : Found) (es : List EntryState) (question : Question) → has_current_entry es question ≡ true → has_current_entry (map (renewed found) es) question ≡ true
current-renewed found [] question current = current
current-renewed found (e ∷ es) question current =
    let same : is_of question (renewed found e) ≡ is_of question e = ap (λ q. same_question q question) (question-renewed found e) in
    subst (λ b. current_of (cond b (Some (renewed found e)) (entry_of (map (renewed found) es) question)) ≡ true) (sym same)
    (elim (is_of question e) as (λ b. current_of (cond b (Some e) (entry_of es question)) ≡ true → current_of (cond b (Some (renewed found e)) (entry_of (map (renewed found) es) question)) ≡ true) [
      | true ↦ λ own. renewed_cases found e (λ x. x.is_current ≡ true) (λ _. refl) (λ _. own)
      | false ↦ λ other. current-renewed found es question other
    ] current)
  where
    current_of : Option EntryState → Bool
    current_of o = elim o [ Some e ↦ e.is_current | None ↦ false ]

-- each entry is as it was, or has the finding
found-renewed : (book : BookState) (found : Found) (question : Question) → IsLocated book.store question book.client found → All (IsOldOrRenewed book) (map (renewed found) book.entries)
found-renewed book found question is =
    let located : IsLocated book.store found.question book.client found = record { question = refl; client = is.client; current = is.current; sound = is.sound } in
    All-map (IsOldOrRenewed book) (renewed found) book.entries
    (All-weaker (Contains book.entries) (λ e. IsOldOrRenewed book (renewed found e)) (λ e old. renewed_cases found e (IsOldOrRenewed book) (λ _. inr (refl, located)) (λ _. inl old))
    book.entries (All-contains_itself book.entries))

-- each entry is as it was
found-same : (book : BookState) (entries : List EntryState) → entries ≡ book.entries → All (IsOldOrRenewed book) entries
found-same book entries same =
    subst (All (IsOldOrRenewed book)) (sym same)
    (All-weaker (Contains book.entries) (IsOldOrRenewed book) (λ e old. inl old) book.entries (All-contains_itself book.entries))

-- ---- the looks

-- the same questions by the same ids
same_questions : (xs ys : List EntryState) → map (λ e. e.id) xs ≡ map (λ e. e.id) ys → map (λ e. e.found.question) xs ≡ map (λ e. e.found.question) ys
    → (id : ℕ) → question_with xs id ≡ question_with ys id
same_questions [] [] ids questions id = refl
same_questions [] (y ∷ ys) ids questions id = absurd (cc ids)
same_questions (x ∷ xs) [] ids questions id = absurd (cc ids)
same_questions (x ∷ xs) (y ∷ ys) ids questions id =
    let same : x.id ≡ y.id = cc ids in
    let own : x.found.question ≡ y.found.question = cc questions in
    let others_ids : map (λ e. e.id) xs ≡ map (λ e. e.id) ys = cc ids in
    let others_questions : map (λ e. e.found.question) xs ≡ map (λ e. e.found.question) ys = cc questions in
    subst (λ n. question_with (x ∷ xs) id ≡ option_map (λ e. e.found.question) (cond (eqb n id) (Some y) (entry_with ys id))) same
    (elim (eqb x.id id) as (λ b. option_map (λ e. e.found.question) (cond b (Some x) (entry_with xs id)) ≡ option_map (λ e. e.found.question) (cond b (Some y) (entry_with ys id))) [
      | true ↦ ap Some own
      | false ↦ same_questions xs ys others_ids others_questions id
    ])

-- a renewal leaves how many sets a look-up reads
sets_read-renewed : (old now : BookState) → IsRenewed old now → (id : ℕ) → sets_read now id ≡ sets_read old id
sets_read-renewed old now so id =
    let count : Option Question → BookState → ℕ = λ question book. elim question [
      | Some q ↦ length (reads (set_of book.store.zones.records) q book.client)
      | None ↦ 0
    ] in
    ap (λ question. count question now) (same_questions now.entries old.entries so.ids so.questions id)
    ∙ (λ i. elim (question_with old.entries id) [
      | Some q ↦ length (reads (set_of (so.others i).store.zones.records) q (so.others i).client)
      | None ↦ 0
    ])

-- some looks after others
looks_after-add : (more first looks : ℕ) → looks_after more (looks_after first looks) ≡ looks_after (more + first) looks
looks_after-add zero first looks =
    let none : first ≡ zero + first = omega arith in
    ap (λ n. looks_after n looks) none
looks_after-add (suc more) first looks =
    let next : suc (more + first) ≡ suc more + first = omega arith in
    ap (λ n. min (n + 1) (2 ^ 64 - 1)) (looks_after-add more first looks) ∙ ap (λ n. looks_after n looks) next

-- what a repair has looked at: the sets of the first queued entries
pub record LooksAtFirst (old now : BookState) : Type 0 where
  pub first : List ℕ
  pub queued : old.queue.queued ≡ first ++ now.queue.queued
  pub looks : now.store.looks ≡ looks_after (sum_by (sets_read old) first) old.store.looks

-- nothing was looked at yet
pub looked_at_none : (book : BookState) → LooksAtFirst book book
looked_at_none book = record { first = []; queued = refl; looks = refl }

-- one more entry
pub looked_at_more : (old now new : BookState) → IsRenewed old now → LooksAtFirst old now → new.queue.queued ≡ drop 1 now.queue.queued
    → new.store.looks ≡ looks_after (sum_by (sets_read now) (take 1 now.queue.queued)) now.store.looks → LooksAtFirst old new
looked_at_more old now new so before next looks =
    let queue : List ℕ = now.queue.queued in
    let same : sum_by (sets_read now) (take 1 queue) ≡ sum_by (sets_read old) (take 1 queue) =
    λ i. sum_by (λ id. sets_read-renewed old now so id i) (take 1 queue) in
    let count : sum_by (sets_read now) (take 1 queue) + sum_by (sets_read old) before.first ≡ sum_by (sets_read old) (before.first ++ take 1 queue) =
    omega (arith, same, sum_by-append (sets_read old) before.first (take 1 queue)) in
    record {
      first = before.first ++ take 1 queue;
      queued = before.queued
          ∙ ap (λ rest. before.first ++ rest) (sym (take-append-drop 1 queue))
          ∙ sym (append_assoc before.first (take 1 queue) (drop 1 queue))
          ∙ ap (λ rest. (before.first ++ take 1 queue) ++ rest) (sym next);
      looks = looks
          ∙ ap (looks_after (sum_by (sets_read now) (take 1 queue))) before.looks
          ∙ looks_after-add (sum_by (sets_read now) (take 1 queue)) (sum_by (sets_read old) before.first) old.store.looks
          ∙ ap (λ n. looks_after n old.store.looks) count;
    }

-- all of them
pub looked_at_all : (old new : BookState) → LooksAtFirst old new → new.queue.queued ≡ []
    → new.store.looks ≡ looks_after (sum_by (sets_read old) old.queue.queued) old.store.looks
looked_at_all old new is none =
    is.looks ∙ ap (λ ids. looks_after (sum_by (sets_read old) ids) old.store.looks)
    (sym (is.queued ∙ ap (λ rest. is.first ++ rest) none ∙ append-nil is.first))

-- the first id of a queue alone
sum_first : (f : ℕ → ℕ) (ks : List ℕ) (id : ℕ) → first_of ks ≡ Ok id → sum_by f (take 1 ks) ≡ f id
sum_first f [] id first = absurd (fault-none first)
  where
    fault-none : first_of [] ≡ Ok id → ⊥
    fault-none same = cc
sum_first f (k ∷ ks) id first =
    let same : k ≡ id = cc first in
    let one : take 1 (k ∷ ks) ≡ k ∷ [] = grind (arith, common_steps) in
    ap (sum_by f) one ∙ sum_by-cons f k [] ∙ add-zero (f k) ∙ ap f same

-- ---- the queue

module _ (q : QueueState) (id : ℕ) (idle : is_leased q id ≡ false) where
  fault-first : first_of [] ≡ Ok id → ⊥
  fault-first same = cc

  -- an id that is leased and settled is held no longer
  spent : (ks : List ℕ) → first_of ks ≡ Ok id → after_settle (with_first_leased q ks) id ≡ record q { queued = drop 1 ks }
  spent [] first = absurd (fault-first first)
  spent (k ∷ ks) first =
      let same : k ≡ id = cc first in
      λ i. record q { queued = ks; leased = (ap (λ n. set.remove (set.insert q.leased n) id) same ∙ remove-insert q.leased id idle) i }

  first_leased : (ks : List ℕ) → first_of ks ≡ Ok id → is_leased (with_first_leased q ks) id ≡ true
  first_leased [] first = absurd (fault-first first)
  first_leased (k ∷ ks) first =
      let same : k ≡ id = cc first in
      contains-insert q.leased k id ∙ or_left (eqb id k) (is_leased q id) (eq-eqb id k (sym same))

  -- one that is leased and given back is the first again
  returned : (ks : List ℕ) → first_of ks ≡ Ok id → after_front (with_first_leased q ks) id ≡ record q { queued = ks }
  returned [] first = absurd (fault-first first)
  returned (k ∷ ks) first =
      let same : k ≡ id = cc first in
      let leased : QueueState = record q { queued = ks; leased = set.insert q.leased k } in
      cond-true (is_leased leased id) (record leased { queued = id ∷ ks; leased = set.remove leased.leased id }) leased (first_leased (k ∷ ks) first)
      ∙ (λ i. record q { queued = sym same i ∷ ks; leased = (ap (λ n. set.remove (set.insert q.leased n) id) same ∙ remove-insert q.leased id idle) i })

-- ---- the book

-- looks are counted
pub renewed-looked : (old new : BookState) → new ≡ with_looks new.store.looks old → CountsLooks old new → IsRenewed old new
renewed-looked old new is counted =
    record {
      ids = ap (λ (b : BookState). map (λ e. e.id) b.entries) is;
      questions = ap (λ (b : BookState). map (λ e. e.found.question) b.entries) is;
      findings = found-same old new.entries (ap (λ (b : BookState). b.entries) is);
      current = λ question current. subst (λ (b : BookState). has_current_entry b.entries question ≡ true) (sym is) current;
      queued = (0, ap (λ (b : BookState). b.queue.queued) is);
      leased = ap (λ (b : BookState). b.queue.leased) is;
      capacity = ap (λ (b : BookState). b.queue.capacity) is;
      others = is ∙ (λ i. with_looks new.store.looks (record old { entries = (sym is i).entries; queue = (sym is i).queue }));
      counted = counted;
    }

-- some looks after others
counted-more : (old now new : BookState) → CountsLooks old now → CountsLooks now new → CountsLooks old new
counted-more old now new so later =
    (later.0 + so.0, later.1 ∙ ap (looks_after later.0) so.1 ∙ looks_after-add later.0 so.0 old.store.looks)

-- a finding on the records after a renewal is one on those before it
located-before : (old now : BookState) (question : Question) (found : Found) → IsRenewed old now → IsLocated now.store question now.client found → IsLocated old.store question old.client found
located-before old now question found so is =
    located-as now.store old.store (ap (λ (b : BookState). b.store.zones) (sym so.others)) (ap (λ (b : BookState). b.store.numbers) (sym so.others)) question old.client found
    (subst (λ client. IsLocated now.store question client found) (ap (λ (b : BookState). b.client) so.others) is)

-- one renewal after another
pub renewed-more : (old now new : BookState) → IsRenewed old now → IsRenewed now new → IsRenewed old new
renewed-more old now new so later =
    record {
      ids = later.ids ∙ so.ids;
      questions = later.questions ∙ so.questions;
      findings = λ k d below. elim (later.findings k d below) [
        | inl old_one ↦ All-contains (IsOldOrRenewed old) now.entries _ so.findings old_one
        | inr one ↦ inr (one.0, located-before old now _ _ so one.1)
      ];
      current = λ question current. later.current question (so.current question current);
      queued = (so.queued.0 + later.queued.0, later.queued.1 ∙ ap (drop later.queued.0) so.queued.1 ∙ drop-drop later.queued.0 so.queued.0 old.queue.queued);
      leased = later.leased ∙ so.leased;
      capacity = later.capacity ∙ so.capacity;
      others = later.others ∙ (λ i. with_looks new.store.looks (record (so.others i) { entries = new.entries; queue = new.queue }));
      counted = counted-more old now new so.counted later.counted;
    }

-- a fault that is no other one
is_memory : (fault : BookFault) → (fault ≢ Memory → ⊥) → fault ≡ Memory
is_memory JournalFull never = absurd (never (λ same. cc))
is_memory NotCurrent never = absurd (never (λ same. cc))
is_memory (Stale place) never = absurd (never (λ same. cc))
is_memory Unknown never = absurd (never (λ same. cc))
is_memory Gone never = absurd (never (λ same. cc))
is_memory PagesSpent never = absurd (never (λ same. cc))
is_memory (Queue fault) never = absurd (never (λ same. cc))
is_memory (OfStore fault) never = absurd (never (λ same. cc))
is_memory (Board fault) never = absurd (never (λ same. cc))
is_memory Memory never = refl

-- a repair that fails while an entry is queued
pub unrepaired : (old now new : BookState) (fault : BookFault) → IsRenewed old now → now.queue.queued ≢ []
    → (fault ≢ Memory → now.queue.queued ≡ []) → IsRenewed now new → IsRepaired old new (Err fault)
unrepaired old now new fault so waits failed later =
    record {
      done = tt;
      looks = tt;
      failed = is_memory fault (λ other. waits (failed other));
      memory = λ none. waits (so.queued.1 ∙ ap (λ ids. drop so.queued.0 ids) none ∙ drop-nil so.queued.0);
      renewed = renewed-more old now new so later;
    }

-- an entry that was leased
module _ (old : BookState) (id : ℕ) (question : Question) (first : first_of old.queue.queued ≡ Ok id) (idle : is_leased old.queue id ≡ false)
    (own : option_map (λ e. e.id) (entry_of old.entries question) ≡ Some id) (leased now : BookState)
    (is : leased ≡ record old { queue = after_lease old.queue }) (looked : now ≡ with_looks now.store.looks leased) (counted : CountsLooks leased now) where
  before : now ≡ with_looks now.store.looks (record old { queue = after_lease old.queue })
  before = looked ∙ ap (with_looks now.store.looks) is

  -- no look is taken back
  counted-before : CountsLooks old now
  counted-before = (counted.0, counted.1 ∙ ap (λ (b : BookState). looks_after counted.0 b.store.looks) is)

  is_own : is_leased_for old.entries (after_lease old.queue) id question ≡ true
  is_own =
      elim (entry_of old.entries question) as (λ o. option_map (λ e. e.id) o ≡ Some id → (elim o [ Some e ↦ eqb e.id id && is_leased (after_lease old.queue) id | None ↦ false ]) ≡ true) [
        | None ↦ λ none. absurd (none-some id none)
        | Some e ↦ λ same. and_from _ _ (eq-eqb e.id id (same_Some e.id id same)) (first_leased old.queue id idle old.queue.queued first)
      ] own

  -- its settlement is not refused
  settles : (found : Found) → IsLocated leased.store question leased.client found → settle_refusal is_renumbered id found now ≡ None
  settles found located =
      let mine : is_leased_for now.entries now.queue id found.question ≡ true =
      ap (is_leased_for now.entries now.queue id) located.question ∙ ap (λ (b : BookState). is_leased_for b.entries b.queue id question) before ∙ is_own in
      cond-true (is_leased_for now.entries now.queue id found.question) (option_map Stale (position (is_renumbered now.store) found.items)) (Some Gone) mine
      ∙ ap (λ (b : BookState). option_map Stale (position (is_renumbered b.store) found.items)) looked
      ∙ ap (option_map Stale) (not_renumbered leased.store found.items located.current)

  -- the book after it is settled
  module _ (found : Found) (new : BookState) (located : IsLocated leased.store question leased.client found) (after : new ≡ after_settlement id found now) where
    entries : new.entries ≡ map (renewed found) old.entries
    entries = ap (λ (b : BookState). b.entries) after ∙ ap (λ (b : BookState). map (renewed found) b.entries) before

    queue : new.queue ≡ record old.queue { queued = drop 1 old.queue.queued }
    queue = ap (λ (b : BookState). b.queue) after ∙ ap (λ (b : BookState). after_settle b.queue id) before ∙ spent old.queue id idle old.queue.queued first

    located-old : IsLocated old.store question old.client found
    located-old = subst (λ (b : BookState). IsLocated b.store question b.client found) is located

    -- a look at each set that the route of its question reads
    looks-settled : now ≡ after_reads (length found.items) leased → question_with old.entries id ≡ Some question
        → new.store.looks ≡ looks_after (sum_by (sets_read old) (take 1 old.queue.queued)) old.store.looks
    looks-settled read asked =
        let keys : length (reads (set_of old.store.zones.records) question old.client) ≡ length found.items =
        ap (λ q. length (reads (set_of old.store.zones.records) q old.client)) (sym located-old.question)
        ∙ ap (λ client. length (reads (set_of old.store.zones.records) found.question client)) (sym located-old.client)
        ∙ ap length (located-old.sound.reads (set_of old.store.zones.records) located-old.current.agrees)
        ∙ length-map found.items (λ item. item.key) in
        let count : sum_by (sets_read old) (take 1 old.queue.queued) ≡ length found.items =
        sum_first (sets_read old) old.queue.queued id first
        ∙ ap (λ o. elim o [ Some q ↦ length (reads (set_of old.store.zones.records) q old.client) | None ↦ 0 ]) asked
        ∙ keys in
        ap (λ (b : BookState). b.store.looks) after ∙ ap (λ (b : BookState). b.store.looks) read
        ∙ ap (λ (b : BookState). looks_after (length found.items) b.store.looks) is
        ∙ ap (λ n. looks_after n old.store.looks) (sym count)

    settled-next : new.queue.queued ≡ drop 1 old.queue.queued
    settled-next = ap (λ (k : QueueState). k.queued) queue

    renewed-settled : IsRenewed old new
    renewed-settled =
        record {
          ids = ap (map (λ e. e.id)) entries ∙ ids-renewed found old.entries;
          questions = ap (map (λ e. e.found.question)) entries ∙ questions-renewed found old.entries;
          findings = subst (All (IsOldOrRenewed old)) (sym entries) (found-renewed old found question located-old);
          current = λ asked current. ap (λ es. has_current_entry es asked) entries ∙ current-renewed found old.entries asked current;
          queued = (1, settled-next);
          leased = ap (λ (k : QueueState). k.leased) queue;
          capacity = ap (λ (k : QueueState). k.capacity) queue;
          others = after
              ∙ (λ i. record (before i) { entries = (sym after i).entries; queue = (sym after i).queue })
              ∙ ap (λ looks. with_looks looks (record old { entries = new.entries; queue = new.queue })) (sym (ap (λ (b : BookState). b.store.looks) after));
          counted = (counted-before.0, ap (λ (b : BookState). b.store.looks) after ∙ counted-before.1);
        }

  pub settled_ok : (found : Found) (new : BookState) (result : Result (Unit {0}) Uncommitted) → IsLocated leased.store question leased.client found
      → IsSettled is_renumbered id found now now new result → IsOk result
  settled_ok found new (Ok done) located so = refl
  settled_ok found new (Err uncommitted) located so = absurd (none-some uncommitted.fault (sym (settles found located) ∙ so.refused))

  pub settled : (found : Found) (new : BookState) (result : Result (Unit {0}) Uncommitted) → IsLocated leased.store question leased.client found
      → IsSettled is_renumbered id found now now new result → IsRenewed old new × (new.queue.queued ≡ drop 1 old.queue.queued)
  settled found new (Ok done) located so = (renewed-settled found new located so.after, settled-next found new located so.after)
  settled found new (Err uncommitted) located so = absurd (none-some uncommitted.fault (sym (settles found located) ∙ so.refused))

  pub settled_looks : (found : Found) (new : BookState) (result : Result (Unit {0}) Uncommitted) → IsLocated leased.store question leased.client found
      → IsSettled is_renumbered id found now now new result → now ≡ after_reads (length found.items) leased → question_with old.entries id ≡ Some question
      → new.store.looks ≡ looks_after (sum_by (sets_read old) (take 1 old.queue.queued)) old.store.looks
  settled_looks found new (Ok done) located so read asked = looks-settled found new located so.after read asked
  settled_looks found new (Err uncommitted) located so read asked = absurd (none-some uncommitted.fault (sym (settles found located) ∙ so.refused))

  -- the book after it is given back
  module _ (new : BookState) (after : new ≡ after_give_back id now) where
    entries-returned : new.entries ≡ old.entries
    entries-returned = ap (λ (b : BookState). b.entries) after ∙ ap (λ (b : BookState). b.entries) before

    renewed-queue : (count : ℕ) → new.queue ≡ record old.queue { queued = drop count old.queue.queued } → IsRenewed old new
    renewed-queue count queue =
        record {
          ids = ap (map (λ e. e.id)) entries-returned;
          questions = ap (map (λ e. e.found.question)) entries-returned;
          findings = found-same old new.entries entries-returned;
          current = λ asked current. ap (λ es. has_current_entry es asked) entries-returned ∙ current;
          queued = (count, ap (λ (k : QueueState). k.queued) queue);
          leased = ap (λ (k : QueueState). k.leased) queue;
          capacity = ap (λ (k : QueueState). k.capacity) queue;
          others = after
              ∙ (λ i. record (before i) { entries = (sym after i).entries; queue = (sym after i).queue })
              ∙ ap (λ looks. with_looks looks (record old { entries = new.entries; queue = new.queue })) (sym (ap (λ (b : BookState). b.store.looks) after));
          counted = (counted-before.0, ap (λ (b : BookState). b.store.looks) after ∙ counted-before.1);
        }

    pub renewed-returned : IsRenewed old new
    renewed-returned =
        elim (is_outdated old.entries id) as (λ b. new.queue ≡ cond b (after_front (after_lease old.queue) id) (after_settle (after_lease old.queue) id) → IsRenewed old new) [
          | true ↦ λ back. renewed-queue 0 (back ∙ returned old.queue id idle old.queue.queued first)
          | false ↦ λ gone. renewed-queue 1 (gone ∙ spent old.queue id idle old.queue.queued first)
        ] (ap (λ (b : BookState). b.queue) after ∙ ap (λ (b : BookState). queue_after_give_back b.entries b.queue id) before)
