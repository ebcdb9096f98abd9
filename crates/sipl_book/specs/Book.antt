-- A book, and what always holds of it.
use Rattle.std.specs.Prelude.{◌≡◌, ◌≢◌, ℕ, ◌+◌, ◌-◌, ◌^◌, ◌<◌, ◌≤◌, List, [], length, IsTrue}
use Rattle.std.specs.List.{All, AllPairs}
use Rattle.sipl_records.specs.Sets.{set_of}
use Rattle.sipl_choice.specs.Abilities.{Client}
use Rattle.sipl_uri.specs.declared.question.Question.{Question}
use Rattle.sipl_zonestore.specs.Store.{Store, no_zones}
use Rattle.sipl_zonestore.specs.Consistent.{IsConsistent as IsConsistentStore}
use Rattle.sipl_outages.specs.Board.{BoardState, IsConsistent as IsConsistentBoard}
use Rattle.sipl_outages.specs.Holds.{no_holds}
use Rattle.sipl_outages.specs.declared.held.Held.{Held}
use Rattle.sipl_plans.specs.Findings.{IsSound}
use Rattle.sipl_plans.specs.Route.{route}
use Rattle.sipl_plans.specs.declared.answer.Answer.{Answer as Targets}
use Rattle.sipl_repair.specs.QueueState.{QueueState}
use Rattle.sipl_book.specs.Cache.{new_queue}
use Rattle.sipl_book.specs.Entries.{EntryState}
use Rattle.sipl_book.specs.Honesty.{AreCurrent, WereRead}
use Rattle.sipl_book.specs.Machine.{State, empty_state, answer_in, IsLegal, replay}
use Rattle.sipl_book.specs.declared.event.Event.{Event}
use Rattle.sipl_book.specs.declared.limits.Limits.{Limits}

-- what callers see of a book: the client's abilities, the policy on held endpoints, the zones with
-- the numbers of their sets, the holds and the clock, the number of the journal's first event and the
-- state before it, the events since then, the entries with the queue of the outdated ones, and the
-- maxima of entries and of the journal's events
pub record BookState : Type 0 where
  pub client : Client
  pub held : Held
  pub store : Store
  pub board : BoardState
  pub first : ℕ
  pub base : State
  pub journal : List Event
  pub entries : List EntryState
  pub queue : QueueState
  pub max_entries : ℕ
  pub max_events : ℕ

-- the state of the plain machine
abbrev pub state_of : BookState → State
state_of book = record { zones = book.store.zones; holds = book.board.holds }

-- the answer to a question, from scratch on the records and the holds as they are, by the policy
abbrev pub answer_now : BookState → Question → List ℕ → Targets
answer_now book question words =
    answer_in (state_of book) question book.client book.held words

-- a book without zones, holds, events or entries, at time 0
abbrev pub new_book : Client → Held → Limits → BookState
new_book client held limits =
    record {
      client = client;
      held = held;
      store = record {
        zones = no_zones;
        max_records = limits.records;
        numbers = [];
        next = limits.next;
        looks = 0;
      };
      board = record { holds = no_holds; max_holds = limits.holds };
      first = limits.first;
      base = empty_state;
      journal = [];
      entries = [];
      queue = new_queue limits.entries;
      max_entries = limits.entries;
      max_events = limits.journal;
    }

-- the number of the next event, and the id of an entry that it makes
abbrev pub next_event : BookState → ℕ
next_event book = book.first + length book.journal

-- an entry's finding is one for the client and is sound, and its sets were read; where the entry is
-- current they are still so. The entry was made by an event before now
pub record IsGoodEntry (book : BookState) (entry : EntryState) : Type 0 where
  pub client : entry.found.client ≡ book.client
  pub sound : IsSound entry.found
  pub read : WereRead book.store entry.found.items
  pub up_to_date : IsTrue entry.is_current → AreCurrent book.store entry.found.items
  pub made : entry.id < next_event book

-- a current entry's layout is the route of its question on the records as they are
abbrev pub HasRoute : BookState → EntryState → Type 0
HasRoute book entry =
    IsTrue entry.is_current
    → route (set_of book.store.zones.records) entry.found.question book.client ≡ entry.found.layout

-- the journal is legal from the base and leads to the state as it is; the entries are good, of
-- distinct questions, and in the order in which they were made; the first number and the maxima are
-- within the limits
pub record IsConsistent (book : BookState) : Type 0 where
  pub legal : IsLegal book.client book.held book.journal book.base
  pub replayed : replay book.journal book.base ≡ state_of book
  pub store : IsConsistentStore book.store
  pub board : IsConsistentBoard book.board
  pub entries : All (IsGoodEntry book) book.entries
  pub questions : AllPairs (λ a b. a.found.question ≢ b.found.question) book.entries
  pub ids : AllPairs (λ a b. a.id < b.id) book.entries
  pub few_entries : length book.entries ≤ book.max_entries
  pub few_events : length book.journal ≤ book.max_events
  pub first_limit : book.first ≤ 2 ^ 52 - 2 ^ 20
  pub records_limit : book.store.max_records ≤ 1048576
  pub entries_limit : book.max_entries ≤ 65536
  pub events_limit : book.max_events ≤ 1048576
