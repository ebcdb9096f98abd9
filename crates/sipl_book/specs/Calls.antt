-- What the calls of a book do, and how they end.
use Rattle.std.specs.Prelude.{◌≡◌, ◌≢◌, ℕ, zero, suc, Bool, not, ◌==◌, ◌&&◌, ◌+◌, ◌-◌, ◌^◌, min, List, [], ◌∷◌, ◌++◌, length, map, position, nat_le, if◌then◌else◌, Option, None, Some, is_some, option_map, Result, Ok, OnOk, OnErr, IfOk, IfErr, true, false}
use lib.Pointwise.{pointwise}
use Rattle.sipl_records.specs.Sets.{set_of, same_data}
use Rattle.sipl_records.specs.declared.record.Key.{Key}
use Rattle.sipl_uri.specs.declared.question.Question.{Question}
use Rattle.sipl_evidence.specs.Items.{Item}
use Rattle.sipl_zonestore.specs.Store.{Store, number_in}
use Rattle.sipl_zonestore.specs.Edits.{after as after_edit}
use Rattle.sipl_zonestore.specs.Edited.{early_refusal, store_refusal}
use Rattle.sipl_zonestore.specs.Looks.{looked}
use Rattle.sipl_zonestore.specs.Changes.{changed_count, changed_keys}
use Rattle.sipl_zonestore.specs.Numbers.{number_after, next_after}
use Rattle.sipl_outages.specs.Holds.{BoardEvent, refusal_of as hold_refusal, after as after_hold}
use Rattle.sipl_outages.specs.Holds.BoardEvent.{Hold as HoldFor, Release as ReleaseOf, Advance as AdvanceTo}
use Rattle.sipl_outages.specs.Board.{IsConsistent as IsConsistentBoard}
use Rattle.sipl_plans.specs.Findings.{Found}
use Rattle.sipl_book.specs.Book.{BookState, IsConsistent, answer_now, next_event}
use Rattle.sipl_repair.specs.QueueState.{after_lease, after_settle, first_of, is_leased}
use Rattle.sipl_repair.specs.declared.fault.QueueFault.TheVariants.{Empty}
use Rattle.sipl_book.specs.Entries.{entry_of, has_current_entry, after_change, committed, renewed}
use Rattle.sipl_book.specs.Machine.{zone_edit}
use Rattle.sipl_book.specs.Repairs.{after_failure, after_marks, after_removal, after_renewal, dependents, entry_with, is_leased_for, queue_after_give_back, without}
use Rattle.sipl_book.specs.declared.edit.Edit.{Edit}
use Rattle.sipl_book.specs.declared.event.Event.{Event}
use Rattle.sipl_book.specs.declared.event.Event.TheVariants.{Change, Hold, Release, Advance, Answer}
use Rattle.sipl_book.specs.declared.fault.BookFault.{BookFault}
use Rattle.sipl_book.specs.declared.fault.BookFault.TheVariants.{JournalFull, NotCurrent, Stale, Unknown, Gone, Queue, Store as StoreFault, Board, Memory}
use Rattle.sipl_book.specs.declared.outcome.Recorded.{Recorded}
use Rattle.sipl_book.specs.declared.outcome.Done.{Done}
use Rattle.sipl_book.specs.declared.outcome.Handed.{Handed}
use Rattle.sipl_book.specs.declared.outcome.Uncommitted.{Uncommitted}

-- whether the journal has as many events as it may have
abbrev pub is_full : BookState → Bool
is_full book = nat_le book.max_events (length book.journal)

-- the fault of a call that records an event: a full journal comes before all others
abbrev pub unless_full : BookState → Option BookFault → Option BookFault
unless_full book fault = if is_full book then Some JournalFull else fault

-- a book with one more event
abbrev pub recorded : Event → BookState → BookState
recorded event book = record book { journal = book.journal ++ event ∷ [] }

-- the fault of an edit
abbrev pub change_refusal : Edit → BookState → Option BookFault
change_refusal edit book =
    unless_full book (option_map StoreFault (store_refusal (zone_edit edit) book.store))

-- the fault of an edit that is found before anything is allocated: each one, but for too few numbers
-- for a zone's text
abbrev pub early_change_refusal : Edit → BookState → Option BookFault
early_change_refusal edit book =
    unless_full book (option_map StoreFault (early_refusal (zone_edit edit) book.store))

-- An accepted edit changes the zones, the numbers of their sets, and which entries are current, and
-- is the next event. The entries that it makes outdated are marked in their order, but for those
-- that are leased. A refused one changes nothing. An allocation fails only where no early refusal
-- comes before. What always holds of a book holds after either.
pub record IsChanged (edit : Edit) (old new : BookState) (result : Result Done BookFault)
    : Type 0 where
  pub accepted : OnOk result (change_refusal edit old ≡ None)
  pub number : IfOk result (λ done. done.number ≡ next_event old)
  pub changed : IfOk result (λ done. done.changed
      ≡ changed_count old.store.zones.records new.store.zones.records)
  pub zones : OnOk result (new.store.zones ≡ after_edit (zone_edit edit) old.store.zones)
  pub numbers : OnOk result ((key : Key) → number_in new.store key
      ≡ number_after old.store.zones.records new.store.zones.records old.store.next
      (number_in old.store) key)
  pub next : OnOk result (new.store.next
      ≡ next_after old.store.zones.records new.store.zones.records old.store.next)
  pub journal : OnOk result (new.journal ≡ old.journal ++ Change edit ∷ [])
  pub entries : OnOk result (new.entries
      ≡ map (after_change (changed_keys old.store.zones.records new.store.zones.records)) old.entries)
  pub queue : OnOk result (new.queue ≡ after_marks old.queue
      (dependents (changed_keys old.store.zones.records new.store.zones.records) old.entries))
  pub refused : IfErr result (λ fault. fault ≢ Memory → change_refusal edit old ≡ Some fault)
  pub memory : IfErr result (λ fault. fault ≡ Memory → early_change_refusal edit old ≡ None)
  pub unchanged : OnErr result (new ≡ old)
  pub first : new.first ≡ old.first
  pub base : new.base ≡ old.base
  pub looks : new.store.looks ≡ old.store.looks
  pub max_records : new.store.max_records ≡ old.store.max_records
  pub board : new.board ≡ old.board
  pub client : new.client ≡ old.client
  pub held : new.held ≡ old.held
  pub max_entries : new.max_entries ≡ old.max_entries
  pub max_events : new.max_events ≡ old.max_events
  pub consistent : IsConsistent new

-- the event of a hold, a release or a move of the clock
abbrev pub board_event : BoardEvent → Event
board_event (HoldFor endpoint ms) = Hold endpoint ms
board_event (ReleaseOf endpoint) = Release endpoint
board_event (AdvanceTo to) = Advance to

-- the fault of a hold, a release or a move of the clock
abbrev pub board_refusal : BoardEvent → BookState → Option BookFault
board_refusal event book =
    unless_full book (option_map Board (hold_refusal book.board.max_holds event book.board.holds))

-- the book after a hold, a release or a move of the clock
abbrev pub after_board : BoardEvent → BookState → BookState
after_board event book =
    recorded (board_event event) (record book {
      board = record { holds = after_hold event book.board.holds; max_holds = book.board.max_holds };
    })

-- An accepted hold, release or move of the clock is the next event. A refused one changes nothing.
-- An allocation fails only where no fault applies. What always holds of a board holds after either.
pub record MovesBoard (event : BoardEvent) (old new : BookState) (result : Result ℕ BookFault)
    : Type 0 where
  pub accepted : OnOk result (board_refusal event old ≡ None)
  pub number : IfOk result (λ number. number ≡ next_event old)
  pub after : OnOk result (new ≡ after_board event old)
  pub refused : IfErr result (λ fault. fault ≢ Memory → board_refusal event old ≡ Some fault)
  pub memory : IfErr result (λ fault. fault ≡ Memory → board_refusal event old ≡ None)
  pub unchanged : OnErr result (new ≡ old)
  pub consistent : IsConsistentBoard new.board

-- the event of the answer to a question
abbrev pub answer_event : BookState → Question → List ℕ → Event
answer_event book question words = Answer question words (answer_now book question words)

-- the fault of handing out an answer
abbrev pub hand_refusal : Question → BookState → Option BookFault
hand_refusal question book =
    unless_full book (if has_current_entry book.entries question then None else Some NotCurrent)

-- An answer that is returned is that of the records and the holds as they are, and is the next
-- event. It looks at no set. A refused call changes nothing. An allocation fails only where no fault
-- applies.
pub record IsHanded (question : Question) (words : List ℕ) (old new : BookState)
    (result : Result Handed BookFault) : Type 0 where
  pub accepted : OnOk result (hand_refusal question old ≡ None)
  pub number : IfOk result (λ handed. handed.number ≡ next_event old)
  pub answer : IfOk result (λ handed. handed.answer ≡ answer_now old question words)
  pub after : OnOk result (new ≡ recorded (answer_event old question words) old)
  pub refused : IfErr result (λ fault. fault ≢ Memory → hand_refusal question old ≡ Some fault)
  pub memory : IfErr result (λ fault. fault ≡ Memory → hand_refusal question old ≡ None)
  pub unchanged : OnErr result (new ≡ old)

-- whether a set has another number than when it was read
abbrev pub is_renumbered : Store → Item → Bool
is_renumbered store item = not (number_in store item.key == item.number)

-- whether a set that was read is no longer so, by its number or by its data
abbrev pub is_stale : Store → Item → Bool
is_stale store item =
    not (number_in store item.key == item.number
    && pointwise same_data (set_of store.zones.records item.key) item.content)

-- the fault of a commit: the place, from 0, of the first set that has changed by the test
abbrev pub commit_refusal : (Store → Item → Bool) → Found → BookState → Option BookFault
commit_refusal has_changed found book =
    unless_full book (option_map Stale (position (has_changed book.store) found.items))

-- a count of looks after this many more; it stops at the greatest number of 64 bits
abbrev pub looks_after : ℕ → ℕ → ℕ
looks_after zero looks = looks
looks_after (suc more) looks = min (looks_after more looks + 1) (2 ^ 64 - 1)

-- a store after this many looks more
abbrev pub after_looks : ℕ → Store → Store
after_looks count store = record store { looks = looks_after count store.looks }

-- how many sets are compared: those up to the first that has changed
abbrev pub compared : Store → List Item → ℕ
compared store items = elim (position (is_stale store) items) [ Some place ↦ place + 1 | None ↦ length items ]

-- a book after the sets of a finding were compared with its own, which is a look for each
abbrev pub after_comparison : Found → BookState → BookState
after_comparison found book =
    record book { store = after_looks (compared book.store found.items) book.store }

-- the same, but with a full journal none is compared
abbrev pub after_check : Found → BookState → BookState
after_check found book =
    if is_full book then book else after_comparison found book

-- the book after the commit of a finding
abbrev pub after_commit : Found → List ℕ → BookState → BookState
after_commit found words book =
    recorded (answer_event book found.question words) (record book {
      entries = committed found (next_event book) book.max_entries book.entries;
      queue = after_renewal book.queue (entry_of book.entries found.question);
    })

-- A finding that is committed has the answer of the records and the holds as they are, which is
-- the next event, and the question's entry is current and not queued. A refused one is returned, and
-- changes nothing. An allocation fails only where no fault applies. The test says which sets have
-- changed; `looked` is the old book after its looks.
pub record IsCommitted (has_changed : Store → Item → Bool) (found : Found) (words : List ℕ)
    (old looked new : BookState) (result : Result Handed Uncommitted) : Type 0 where
  pub accepted : OnOk result (commit_refusal has_changed found old ≡ None)
  pub number : IfOk result (λ handed. handed.number ≡ next_event old)
  pub answer : IfOk result (λ handed. handed.answer ≡ answer_now old found.question words)
  pub after : OnOk result (new ≡ after_commit found words looked)
  pub refused : IfErr result (λ uncommitted. uncommitted.fault ≢ Memory
      → commit_refusal has_changed found old ≡ Some uncommitted.fault)
  pub memory : IfErr result (λ uncommitted. uncommitted.fault ≡ Memory
      → commit_refusal has_changed found old ≡ None)
  pub finding : IfErr result (λ uncommitted. uncommitted.finding ≡ found)
  pub unchanged : OnErr result (new ≡ looked)

-- A finding that is committed with an answer that was drawn for it: as above, by number and data of the
-- sets.
pub record CommitsAnswer (found : Found) (words : List ℕ) (old new : BookState)
    (result : Result Recorded Uncommitted) : Type 0 where
  pub accepted : OnOk result (commit_refusal is_stale found old ≡ None)
  pub number : IfOk result (λ committed. committed.number ≡ next_event old)
  pub after : OnOk result (new ≡ after_commit found words (after_check found old))
  pub refused : IfErr result (λ uncommitted. uncommitted.fault ≢ Memory
      → commit_refusal is_stale found old ≡ Some uncommitted.fault)
  pub memory : IfErr result (λ uncommitted. uncommitted.fault ≡ Memory
      → commit_refusal is_stale found old ≡ None)
  pub finding : IfErr result (λ uncommitted. uncommitted.finding ≡ found)
  pub unchanged : OnErr result (new ≡ after_check found old)

-- a store with this count of looks
abbrev pub store_with_looks : ℕ → Store → Store
store_with_looks looks store = record store { looks = looks }

-- a book whose sets were looked at
abbrev pub with_looks : ℕ → BookState → BookState
with_looks looks book = record book { store = store_with_looks looks book.store }

-- some looks were counted, and none was taken back
abbrev pub CountsLooks : BookState → BookState → Type 0
CountsLooks old new = (count : ℕ) × (new.store.looks ≡ looks_after count old.store.looks)

-- a book after one look at a set
abbrev pub after_look : BookState → BookState
after_look book = record book { store = looked book.store }

-- A lease is that of the first queued entry, which is not leased yet, and comes with its question.
-- Nothing else changes. An allocation fails only where an entry is queued.
pub record IsLeased (old new : BookState) (result : Result (ℕ × Question) BookFault) : Type 0 where
  pub id : IfOk result (λ leased. first_of old.queue.queued ≡ Ok leased.0)
  pub question : IfOk result (λ leased.
      option_map (λ e. e.found.question) (entry_with old.entries leased.0) ≡ Some leased.1)
  pub idle : IfOk result (λ leased. is_leased old.queue leased.0 ≡ false)
  pub after : OnOk result (new ≡ record old { queue = after_lease old.queue })
  pub empty : IfErr result
      (λ fault. fault ≢ Memory → (fault ≡ Queue Empty) × (old.queue.queued ≡ []))
  pub memory : IfErr result (λ fault. fault ≡ Memory → old.queue.queued ≢ [])
  pub unchanged : OnErr result (new ≡ old)

-- the book after a lease was given back
abbrev pub after_give_back : ℕ → BookState → BookState
after_give_back id book = record book { queue = queue_after_give_back book.entries book.queue id }

-- the fault of a settlement: the lease is not that of the question's entry, or the place, from 0, of
-- the first set that has changed by the test
abbrev pub settle_refusal : (Store → Item → Bool) → ℕ → Found → BookState → Option BookFault
settle_refusal has_changed id found book =
    if is_leased_for book.entries book.queue id found.question
    then option_map Stale (position (has_changed book.store) found.items) else Some Gone

-- the book after a settlement that was refused for a set
abbrev pub after_stale : ℕ → BookState → BookState
after_stale id book = record book { queue = after_failure book.entries book.queue id }

-- the book after a settlement
abbrev pub after_settlement : ℕ → Found → BookState → BookState
after_settlement id found book =
    record book {
      entries = map (renewed found) book.entries;
      queue = after_settle book.queue id;
    }

-- A finding that is settled is that of the leased entry, which is current then. A refused one is
-- returned; its lease is spent as one that is given back, or else its entry is the last of the
-- queue, unless it is current. No event is recorded. The test says which sets have changed; `looked`
-- is the old book after its looks.
pub record IsSettled (has_changed : Store → Item → Bool) (id : ℕ) (found : Found)
    (old looked new : BookState) (result : Result (Unit {0}) Uncommitted) : Type 0 where
  pub accepted : OnOk result (settle_refusal has_changed id found old ≡ None)
  pub after : OnOk result (new ≡ after_settlement id found looked)
  pub refused : IfErr result
      (λ uncommitted. settle_refusal has_changed id found old ≡ Some uncommitted.fault)
  pub finding : IfErr result (λ uncommitted. uncommitted.finding ≡ found)
  pub gone : IfErr result (λ uncommitted. uncommitted.fault ≡ Gone → new ≡ after_give_back id old)
  pub stale : IfErr result (λ uncommitted. uncommitted.fault ≢ Gone → new ≡ after_stale id looked)

-- the book without the entry of a question
abbrev pub after_forget : Question → BookState → BookState
after_forget question book =
    record book {
      entries = without question book.entries;
      queue = after_removal book.queue (entry_of book.entries question);
    }

-- Only an entry that is there is forgotten. Nothing else changes.
pub record IsForgotten (question : Question) (old new : BookState)
    (result : Result (Unit {0}) BookFault) : Type 0 where
  pub known : OnOk result (is_some (entry_of old.entries question) ≡ true)
  pub after : OnOk result (new ≡ after_forget question old)
  pub refused : IfErr result
      (λ fault. (fault ≡ Unknown) × (entry_of old.entries question ≡ None))
  pub unchanged : OnErr result (new ≡ old)
