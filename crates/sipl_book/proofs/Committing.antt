-- A book stays consistent when sets are looked at, and when a finding is committed.
use Rattle.std.proofs.Common.{◌≡◌, ℕ, ◌+◌, ◌<◌, List, [], ◌∷◌, length, length-append, refl, sym, ap, ◌∙◌, arith}
use Rattle.std.proofs.lemmas.List.Elements.{All-weaker}
use Rattle.sipl_plans.specs.Findings.{Found, IsSound}
use Rattle.sipl_book.specs.Book.{BookState, IsConsistent, IsGoodEntry, next_event}
use Rattle.sipl_book.specs.Calls.{after_commit, answer_event, with_looks}
use Rattle.sipl_book.specs.Entries.{EntryState}
use Rattle.sipl_book.specs.Honesty.{AreCurrent}
use Rattle.sipl_book.specs.Machine.{State, answer_in}
use Rattle.sipl_book.specs.declared.event.Event.{Event}
use Rattle.sipl_book.proofs.Committed.{current, All-committed, questions-committed, ids-committed, length-committed}
use Rattle.sipl_book.proofs.Journal.{legal-push, replay-push, good-later}
use Rattle.sipl_book.proofs.Honest.{read-current, sets-sound}

-- a book is consistent whatever the count of looks
module _ (looks : ℕ) (book : BookState) (so : IsConsistent book) where
  abbrev looked : BookState
  looked = with_looks looks book

  pub consistent_looked : IsConsistent looked
  consistent_looked =
      record {
        legal = so.legal;
        replayed = so.replayed;
        store = record {
          apart = so.store.apart;
          apexes_distinct = so.store.apexes_distinct;
          no_wildcard = so.store.no_wildcard;
          covered = so.store.covered;
          records_distinct = so.store.records_distinct;
          sets_fit = so.store.sets_fit;
          aliases = so.store.aliases;
          limit = so.store.limit;
          numbered = so.store.numbered;
        };
        board = so.board;
        entries = All-weaker (IsGoodEntry book) (IsGoodEntry looked) (good-later book looked refl refl refl refl (omega arith)) book.entries so.entries;
        questions = so.questions;
        ids = so.ids;
        few_entries = so.few_entries;
        few_events = so.few_events;
        first_limit = so.first_limit;
        records_limit = so.records_limit;
        entries_limit = so.entries_limit;
        events_limit = so.events_limit;
      }

-- the commit of a finding whose sets are as the book has them
module _ (book : BookState) (found : Found) (words : List ℕ) (so : IsConsistent book) (sound : IsSound found) (client : found.client ≡ book.client)
    (space : length book.journal < book.max_events) (now : AreCurrent book.store found.items) where
  abbrev new : BookState
  new = after_commit found words book

  abbrev number : ℕ
  number = next_event book

  abbrev event : Event
  event = answer_event book found.question words

  one_more : length new.journal ≡ length book.journal + 1
  one_more = length-append book.journal (event ∷ [])

  -- an entry with the finding is good
  good-current : (id : ℕ) → id < next_event new → IsGoodEntry new (current id found)
  good-current id made =
      record {
        client = client;
        sound = sound;
        read = read-current book.store found.items so.store (sets-sound found sound) now;
        up_to_date = λ _. now;
        made = made;
      }

  pub consistent_committed : IsConsistent new
  consistent_committed =
      record {
        legal = legal-push book.client book.held book.journal event book.base so.legal
            (ap (λ (state : State). answer_in state found.question book.client book.held words) (sym so.replayed));
        replayed = replay-push book.journal event book.base ∙ so.replayed;
        store = so.store;
        board = so.board;
        entries = All-committed (IsGoodEntry book) (IsGoodEntry new) found number book.max_entries book.entries
            (good-later book new refl refl refl refl (omega (arith, one_more)))
            (λ entry good. good-current entry.id (omega (arith, good.made, one_more)))
            (good-current number (omega (arith, one_more))) so.entries;
        questions = questions-committed found number book.max_entries book.entries so.questions;
        ids = ids-committed found number book.max_entries book.entries
            (All-weaker (IsGoodEntry book) (λ (entry : EntryState). entry.id < number) (λ entry good. good.made) book.entries so.entries) so.ids;
        few_entries = length-committed found number book.max_entries book.entries so.few_entries;
        few_events = omega (arith, one_more, space);
        first_limit = so.first_limit;
        records_limit = so.records_limit;
        entries_limit = so.entries_limit;
        events_limit = so.events_limit;
      }
