-- What always holds of a world holds after a call of the book by no worker.
use Rattle.std.proofs.Common.{◌≡◌, ℕ, ◌+◌, ◌<◌, ◌≤◌, not, List, [], ◌∷◌, ◌++◌, length, Option, Some, None, Result, Ok, Err, inl, inr, refl, sym, ap, subst, ◌∙◌, arith, length-append}
use Rattle.std.specs.List.{filter}
use Rattle.std.specs.Prelude.{◌==◌}
use Rattle.sipl_outages.specs.Holds.{BoardEvent}
use Rattle.sipl_repair.specs.QueueState.{is_leased}
use Rattle.sipl_uri.specs.declared.question.Question.{Question}
use Rattle.sipl_zonestore.specs.Changes.{changed_keys}
use Rattle.sipl_book.specs.Book.{BookState, IsConsistent, next_event}
use Rattle.sipl_book.specs.Calls.{IsChanged, MovesBoard, IsHanded, IsForgotten, after_forget, answer_event}
use Rattle.sipl_book.specs.Pages.{IsTurned, PageState, after_turn, turn_refusal}
use Rattle.sipl_book.specs.Entries.{EntryState, after_change, entry_of, is_of}
use Rattle.sipl_book.specs.Repairs.{after_removal, dependents, entry_with, without}
use Rattle.sipl_book.specs.declared.edit.Edit.{Edit}
use Rattle.sipl_book.specs.declared.event.Event.{Event}
use Rattle.sipl_book.specs.declared.event.Event.TheVariants.{Change}
use Rattle.sipl_book.specs.declared.fault.BookFault.{BookFault}
use Rattle.sipl_book.specs.declared.outcome.Done.{Done}
use Rattle.sipl_book.specs.declared.outcome.Handed.{Handed}
use Rattle.sipl_book.proofs.Public.{consistent-forgotten, read-after}
use Rattle.sipl_interleave.specs.World.{IsWorld, WorldState}
use Rattle.sipl_interleave.proofs.Consistent.{consistent-board, consistent-handed, consistent-turned}
use Rattle.sipl_interleave.proofs.Entries.{absent-filter, absent-map, absent-without}
use Rattle.sipl_interleave.proofs.Keeping.{Moves, moved-world, same-world}
use Rattle.sipl_interleave.proofs.Leases.{leased-marks, spends-remove, was_leased}
use Rattle.sipl_interleave.proofs.Numbers.{same_or_not}

-- the number after an event
pub one_later : (old new : BookState) (event : Event) → new.first ≡ old.first → new.journal ≡ old.journal ++ event ∷ [] → next_event new ≡ next_event old + 1
one_later old new event first journal =
    let longer : length new.journal ≡ length old.journal + 1 = ap length journal ∙ length-append old.journal (event ∷ []) in
    omega (arith, first, longer)

-- ---- an edit

moves-changed : (edit : Edit) (old : WorldState) (book : BookState) (done : Done) → IsChanged edit old.book book (Ok done) → Moves old.book book
moves-changed edit old book done change =
    let keys = changed_keys old.book.store.zones.records book.store.zones.records in
    let longer : next_event book ≡ next_event old.book + 1 = one_later old.book book (Change edit) change.first change.journal in
    let leased : (id : ℕ) → is_leased book.queue id ≡ is_leased old.book.queue id =
    λ id. ap (λ q. is_leased q id) change.queue ∙ leased-marks old.book.queue (dependents keys old.book.entries) id in
    record {
      client = change.client;
      read = λ items was. read-after old.book.store book.store items (record { numbers = change.numbers; next = change.next }) was;
      leases = λ id out. record {
        made = omega (arith, out.made, longer);
        leased = elim out.leased [
          | inl gone ↦ inl (ap (λ es. entry_with es id) change.entries ∙ absent-map (after_change keys) (λ e. refl) old.book.entries id gone)
          | inr held ↦ inr (leased id ∙ held)
        ];
      };
      held = λ id held. sym (leased id) ∙ held;
      consistent = change.consistent;
    }

pub world-changed : (edit : Edit) (old : WorldState) (book : BookState) (result : Result Done BookFault) → IsWorld old
    → IsChanged edit old.book book result → IsWorld (record { book = book; workers = old.workers })
world-changed edit old book (Ok done) good change = moved-world old book good (moves-changed edit old book done change)
world-changed edit old book (Err fault) good change = same-world old book good change.unchanged

-- ---- an event of the journal and no change of sets, entries and queue

-- a book with one event more, and other holds
moves-event : (old : WorldState) (book : BookState) (event : Event) → IsConsistent book → book.client ≡ old.book.client → book.store ≡ old.book.store
    → book.first ≡ old.book.first → book.journal ≡ old.book.journal ++ event ∷ [] → book.entries ≡ old.book.entries → book.queue ≡ old.book.queue → Moves old.book book
moves-event old book event consistent client store first journal entries queue =
    let longer : next_event book ≡ next_event old.book + 1 = one_later old.book book event first journal in
    record {
      client = client;
      read = λ items was. rw store was;
      leases = λ id out. record {
        made = omega (arith, out.made, longer);
        leased = elim out.leased [
          | inl gone ↦ inl (ap (λ es. entry_with es id) entries ∙ gone)
          | inr held ↦ inr (ap (λ q. is_leased q id) queue ∙ held)
        ];
      };
      held = λ id held. ap (λ q. is_leased q id) (sym queue) ∙ held;
      consistent = consistent;
    }

pub world-board : (event : BoardEvent) (old : WorldState) (book : BookState) (result : Result ℕ BookFault) → IsWorld old
    → MovesBoard event old.book book result → IsWorld (record { book = book; workers = old.workers })
world-board event old book (Ok number) good move =
    moved-world old book good (moves-event old book _ (consistent-board event old.book book number good.book move) (ap (λ b. b.client) move.after) (ap (λ b. b.store) move.after)
    (ap (λ b. b.first) move.after) (ap (λ b. b.journal) move.after) (ap (λ b. b.entries) move.after) (ap (λ b. b.queue) move.after))
world-board event old book (Err fault) good move = same-world old book good move.unchanged

pub world-handed : (question : Question) (words : List ℕ) (old : WorldState) (book : BookState) (result : Result Handed BookFault) → IsWorld old
    → IsHanded question words old.book book result → IsWorld (record { book = book; workers = old.workers })
world-handed question words old book (Ok handed) good hand =
    moved-world old book good (moves-event old book (answer_event old.book question words) (consistent-handed question words old.book book handed good.book hand) (ap (λ b. b.client) hand.after) (ap (λ b. b.store) hand.after)
    (ap (λ b. b.first) hand.after) (ap (λ b. b.journal) hand.after) (ap (λ b. b.entries) hand.after) (ap (λ b. b.queue) hand.after))
world-handed question words old book (Err fault) good hand = same-world old book good hand.unchanged

-- ---- an entry is forgotten

moves-forgotten : (question : Question) (old : WorldState) → IsWorld old → Moves old.book (after_forget question old.book)
moves-forgotten question old good = by (entry_of old.book.entries question) refl where
  es : List EntryState
  es = old.book.entries

  with : Option EntryState → BookState
  with entry = record old.book { entries = without question es; queue = after_removal old.book.queue entry }

  by : (entry : Option EntryState) → entry_of es question ≡ entry → Moves old.book (with entry)
  by None is =
      record {
        client = refl;
        read = λ items was. was;
        leases = λ id out. record {
          made = out.made;
          leased = elim out.leased [
            | inl gone ↦ inl (absent-filter (λ e. not (is_of question e)) es id gone)
            | inr held ↦ inr held
          ];
        };
        held = λ id held. held;
        consistent = consistent-forgotten old.book question _ good.book;
      }
  by (Some e) is =
      let spent = spends-remove old.book.queue e.id (filter (λ k. not (k == e.id)) old.book.queue.queued) in
      record {
        client = refl;
        read = λ items was. was;
        leases = λ id out. record {
          made = out.made;
          leased = elim out.leased [
            | inl gone ↦ inl (absent-filter (λ e. not (is_of question e)) es id gone)
            | inr held ↦ elim (same_or_not id e.id) [
              | inl same ↦ inl (ap (entry_with (without question es)) same ∙ absent-without question es e good.book.ids is)
              | inr other ↦ inr (spent.others id other ∙ held)
            ]
          ];
        };
        held = λ id held. (was_leased e.id old.book.queue (with (Some e)).queue spent id held).1;
        consistent = consistent-forgotten old.book question _ good.book;
      }

pub world-forgotten : (question : Question) (old : WorldState) (book : BookState) (result : Result (Unit {0}) BookFault) → IsWorld old
    → IsForgotten question old.book book result → IsWorld (record { book = book; workers = old.workers })
world-forgotten question old book (Ok done) good forget =
    subst (λ (b : BookState). IsWorld (record { book = b; workers = old.workers })) (sym forget.after)
    (moved-world old (after_forget question old.book) good (moves-forgotten question old good))
world-forgotten question old book (Err fault) good forget = same-world old book good forget.unchanged

-- ---- the page is turned

-- the number of the next event stays
moves-turned : (old : WorldState) → IsWorld old → turn_refusal old.book ≡ None → Moves old.book (after_turn old.book)
moves-turned old good accepted =
    let same : next_event (after_turn old.book) ≡ next_event old.book = omega arith in
    record {
      client = refl;
      read = λ items was. was;
      leases = λ id out. record { made = omega (arith, out.made, same); leased = out.leased };
      held = λ id held. held;
      consistent = consistent-turned old.book good.book accepted;
    }

pub world-turned : (old : WorldState) (book : BookState) (result : Result PageState BookFault) → IsWorld old
    → IsTurned old.book book result → IsWorld (record { book = book; workers = old.workers })
world-turned old book (Ok page) good turn =
    subst (λ (b : BookState). IsWorld (record { book = b; workers = old.workers })) (sym turn.after)
    (moved-world old (after_turn old.book) good (moves-turned old good turn.accepted))
world-turned old book (Err fault) good turn = same-world old book good turn.unchanged
