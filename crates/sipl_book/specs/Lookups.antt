-- Looking questions up on the records of a book: answers, dependencies and repairs.
use Rattle.std.specs.Prelude.{◌≡◌, ◌≢◌, ◌⊎◌, ℕ, List, [], length, map, drop, option_map, Option, None, Some, Result, OnOk, OnErr, IfOk, IfErr, IsTrue, IsFalse}
use Rattle.std.specs.List.{All, Contains, sum_by}
use Rattle.sipl_records.specs.Sets.{set_of}
use Rattle.sipl_choice.specs.Abilities.{Client}
use Rattle.sipl_uri.specs.declared.question.Question.{Question}
use Rattle.sipl_evidence.specs.Items.{Item}
use Rattle.sipl_zonestore.specs.Store.{Store, number_in}
use Rattle.sipl_plans.specs.Findings.{Found, IsSound}
use Rattle.sipl_plans.specs.Readings.{Source}
use Rattle.sipl_plans.specs.Route.{reads}
use Rattle.sipl_book.specs.Book.{BookState, answer_now, next_event}
use Rattle.sipl_book.specs.Calls.{CountsLooks, after_commit, after_look, after_looks, answer_event, looks_after, recorded, unless_full, with_looks}
use Rattle.sipl_book.specs.Entries.{EntryState, has_current_entry}
use Rattle.sipl_book.specs.Honesty.{AreCurrent}
use Rattle.sipl_book.specs.Repairs.{entry_with}
use Rattle.sipl_book.specs.declared.fault.BookFault.{BookFault}
use Rattle.sipl_book.specs.declared.fault.BookFault.TheVariants.{Memory}
use Rattle.sipl_book.specs.declared.outcome.Handed.{Handed}

-- a sound finding of a question for a client, whose sets are as the store has them
pub record IsLocated (store : Store) (asked : Question) (asker : Client) (found : Found)
    : Type 0 where
  pub question : found.question ≡ asked
  pub client : found.client ≡ asker
  pub current : AreCurrent store found.items
  pub sound : IsSound found

-- the numbers and the sets of a book, which counts the looks at them
abbrev pub source_of : Source BookState
source_of = record {
  number_at = λ book k. number_in book.store k;
  set_at = λ book k. set_of book.store.zones.records k;
  after_look = after_look;
}

-- a book after this many looks more at its sets
abbrev pub after_reads : ℕ → BookState → BookState
after_reads count book = record book { store = after_looks count book.store }

-- a finding of the question on the records as they are is committed, after a look at each of its
-- sets
abbrev pub IsKept : Question → List ℕ → BookState → BookState → Type 0
IsKept question words old new =
    (found : Found) × IsLocated old.store question old.client found
    × (new ≡ after_commit found words (after_reads (length found.items) old))

-- The answer to a question is that of the records and the holds as they are, and is the next event.
-- Where the question has a current entry no set is looked at, and nothing else changes. Where it has
-- none a finding is committed. It is refused only where the journal is full, or else where an
-- allocation failed; then nothing changes but that looks may be counted.
pub record IsAnswered (question : Question) (words : List ℕ) (old new : BookState)
    (result : Result Handed BookFault) : Type 0 where
  pub accepted : OnOk result (unless_full old None ≡ None)
  pub number : IfOk result (λ handed. handed.number ≡ next_event old)
  pub answer : IfOk result (λ handed. handed.answer ≡ answer_now old question words)
  pub from_entry : IsTrue (has_current_entry old.entries question)
      → OnOk result (new ≡ recorded (answer_event old question words) old)
  pub committed : IsFalse (has_current_entry old.entries question)
      → OnOk result (IsKept question words old new)
  pub looks : IsTrue (has_current_entry old.entries question) → new.store.looks ≡ old.store.looks
  pub refused : IfErr result (λ fault. fault ≢ Memory → unless_full old None ≡ Some fault)
  pub memory : IfErr result (λ fault. fault ≡ Memory → unless_full old None ≡ None)
  pub unchanged : OnErr result (new ≡ with_looks new.store.looks old)
  pub counted : CountsLooks old new

-- The dependencies of a question are the sets that its route reads on the records as they are, in
-- their order, with a look at each. Nothing is kept of them. Only an allocation may fail; then looks
-- may be counted.
pub record AreDependencies (question : Question) (old new : BookState)
    (result : Result (List Item) BookFault) : Type 0 where
  pub keys : IfOk result (λ items. map (λ item. item.key) items
      ≡ reads (set_of old.store.zones.records) question old.client)
  pub sets : IfOk result (λ items. AreCurrent old.store items)
  pub looks : IfOk result (λ items. new ≡ after_reads (length items) old)
  pub failed : IfErr result (λ fault. fault ≡ Memory)
  pub unchanged : new ≡ with_looks new.store.looks old
  pub counted : CountsLooks old new

-- an entry of the book, or a current one with a finding on its records
abbrev pub IsOldOrRenewed : BookState → EntryState → Type 0
IsOldOrRenewed book entry =
    Contains book.entries entry
    ⊎ (IsTrue entry.is_current
    × IsLocated book.store entry.found.question book.client entry.found)

-- The entries are those of the same questions, each as it was or renewed by a finding on the records
-- as they are, and the current ones are so still; the first queued ones are queued no longer, and
-- the leased ones are the same. All else is as before; looks may be counted.
pub record IsRenewed (old new : BookState) : Type 0 where
  pub ids : map (λ e. e.id) new.entries ≡ map (λ e. e.id) old.entries
  pub questions : map (λ e. e.found.question) new.entries ≡ map (λ e. e.found.question) old.entries
  pub findings : All (IsOldOrRenewed old) new.entries
  pub current : (question : Question) → IsTrue (has_current_entry old.entries question)
      → IsTrue (has_current_entry new.entries question)
  pub queued : (count : ℕ) × (new.queue.queued ≡ drop count old.queue.queued)
  pub leased : new.queue.leased ≡ old.queue.leased
  pub capacity : new.queue.capacity ≡ old.queue.capacity
  pub others : new ≡ with_looks new.store.looks
      (record old { entries = new.entries; queue = new.queue })
  pub counted : CountsLooks old new

-- the question of the entry with an id
abbrev pub question_with : List EntryState → ℕ → Option Question
question_with entries id = option_map (λ e. e.found.question) (entry_with entries id)

-- how many sets the route of that question reads on the records as they are
abbrev pub sets_read : BookState → ℕ → ℕ
sets_read book id =
    elim (question_with book.entries id) [
      | Some question ↦ length (reads (set_of book.store.zones.records) question book.client)
      | None ↦ 0
    ]

-- A repair looks the queued entries up again, which are current then, with a look at each set that
-- their routes read. Only an allocation may fail, where an entry is queued: then some of them still
-- wait, in their order.
pub record IsRepaired (old new : BookState) (result : Result (Unit {0}) BookFault) : Type 0 where
  pub done : OnOk result (new.queue.queued ≡ [])
  pub looks : OnOk result (new.store.looks
      ≡ looks_after (sum_by (sets_read old) old.queue.queued) old.store.looks)
  pub failed : IfErr result (λ fault. fault ≡ Memory)
  pub memory : OnErr result (old.queue.queued ≢ [])
  pub renewed : IsRenewed old new
