-- The plain machine of a session's text: zones, holds, the time, limits, the number of the page's first
-- event, a count of the page's events and the next number of a set. It has no kept answer, no queue and
-- no lease.
use Rattle.std.specs.Prelude.{◌≡◌, ◌⊎◌, ◌+◌, ◌-◌, ◌^◌, ℕ, List, length, map, nat_le, nat_lt, if◌then◌else◌, Option, None, Some, option_map, Result, Ok, Err, IfErr}
use Rattle.std.specs.Option.{option_or}
use Rattle.sipl_records.specs.Sets.{set_of}
use Rattle.sipl_records.specs.declared.data.Data.{Data}
use Rattle.sipl_records.specs.declared.record.Key.{Key}
use Rattle.sipl_choice.specs.Abilities.{Client}
use Rattle.sipl_uri.specs.declared.question.Question.{Question}
use Rattle.sipl_evidence.specs.Items.{Item}
use Rattle.sipl_outages.specs.declared.held.Held.{Held}
use Rattle.sipl_outages.specs.Holds.{Holds, BoardEvent, refusal_of as hold_refusal, after as after_hold}
use Rattle.sipl_plans.specs.Plan.{plan}
use Rattle.sipl_plans.specs.Route.{reads}
use Rattle.sipl_zonestore.specs.Store.{Zones}
use Rattle.sipl_zonestore.specs.declared.fault.StoreFault.TheVariants.{NumberSpent}
use Rattle.sipl_zonestore.specs.Edits.{refusal_of as zones_refusal, after as zones_after}
use Rattle.sipl_zonestore.specs.Changes.{changed_count}
use Rattle.sipl_zonestore.specs.Numbers.{next_after, number_refusal}
use Rattle.sipl_book.specs.Book.{BookState}
use Rattle.sipl_book.specs.BookFault.{code_of as book_code}
use Rattle.sipl_book.specs.Machine.{zone_edit}
use Rattle.sipl_book.specs.declared.edit.Edit.{Edit}
use Rattle.sipl_book.specs.declared.fault.BookFault.{BookFault}
use Rattle.sipl_book.specs.declared.fault.BookFault.TheVariants.{JournalFull, PagesSpent, Store, Board, Memory}
use Rattle.sipl_book.specs.declared.outcome.Done.{Done}
use Rattle.sipl_book.specs.declared.outcome.Extent.{Extent}
use Rattle.sipl_book.specs.declared.outcome.Handed.{Handed}
use Rattle.sipl_lines.specs.Desk.{DeskRules}

-- the client's abilities, the policy on held endpoints, the zones with their records, the holds with
-- the time, the maxima of records, holds and events, the number of the first event since the last page,
-- how many events there were since then, and the next number of a set
pub record PlainState : Type 0 where
  pub client : Client
  pub held : Held
  pub zones : Zones
  pub holds : Holds
  pub max_records : ℕ
  pub max_holds : ℕ
  pub max_events : ℕ
  pub first : ℕ
  pub events : ℕ
  pub next : ℕ

-- the client, the policy, the zones, the holds, the limits and the counts of a book
abbrev pub plain_of : BookState → PlainState
plain_of book =
    record {
      client = book.client;
      held = book.held;
      zones = book.store.zones;
      holds = book.board.holds;
      max_records = book.store.max_records;
      max_holds = book.board.max_holds;
      max_events = book.max_events;
      first = book.first;
      events = length book.journal;
      next = book.store.next;
    }

-- how a call ends: its result, and the state after it
abbrev pub Ending : Type 0 → Type 0
Ending A = Result A BookFault × PlainState

-- a call ends with its fault, and changes nothing; where it has none, with this value and this state
abbrev pub ending_of : {A : Type 0} → Option BookFault → A → PlainState → PlainState → Ending A
ending_of (Some fault) value after before = (Err fault, before)
ending_of None value after before = (Ok value, after)

-- the fault of a call that is an event: that there may be no more events comes before all others
abbrev pub unless_at_limit : PlainState → Option BookFault → Option BookFault
unless_at_limit plain fault =
    if nat_le plain.max_events plain.events then Some JournalFull else fault

-- the number of the next event
abbrev pub next_number : PlainState → ℕ
next_number plain = plain.first + plain.events

-- the state after one more event
abbrev pub with_event : PlainState → PlainState
with_event plain = record plain { events = plain.events + 1 }

-- what is known of the records: the data of each key
abbrev pub sets_in : PlainState → Key → List Data
sets_in plain key = set_of plain.zones.records key

-- the targets of a question for random words, on the records and the holds as they are (RFC 3263,
-- 4), with held endpoints left out or last; they are the next event
abbrev pub find_ending : Question → List ℕ → PlainState → Ending Handed
find_ending question words plain =
    ending_of (unless_at_limit plain None)
    (record {
      number = next_number plain;
      answer = plan (sets_in plain) plain.holds question plain.client words plain.held;
    })
    (with_event plain) plain

-- the zones after an edit
abbrev pub edited : Edit → PlainState → Zones
edited edit plain = zones_after (zone_edit edit) plain.zones

-- the fault of an edit: that of the zones, or else too few numbers of sets are left
abbrev pub change_refusal : Edit → PlainState → Option BookFault
change_refusal edit plain =
    unless_at_limit plain
    (option_map Store (option_or (zones_refusal plain.max_records (zone_edit edit) plain.zones)
    (number_refusal plain.zones.records (edited edit plain).records plain.next)))

-- the state after an edit: each set of records that it changes, and that is not empty then, took a
-- number
abbrev pub after_change : Edit → PlainState → PlainState
after_change edit plain =
    with_event (record plain {
      zones = edited edit plain;
      next = next_after plain.zones.records (edited edit plain).records plain.next;
    })

-- an edit of the zones, which is the next event, and how many sets of records it changes
abbrev pub change_ending : Edit → PlainState → Ending Done
change_ending edit plain =
    ending_of (change_refusal edit plain)
    (record {
      number = next_number plain;
      changed = changed_count plain.zones.records (edited edit plain).records;
    })
    (after_change edit plain) plain

-- the fault of a hold, a release or a move of the clock
abbrev pub move_refusal : BoardEvent → PlainState → Option BookFault
move_refusal event plain =
    unless_at_limit plain (option_map Board (hold_refusal plain.max_holds event plain.holds))

-- a hold, a release or a move of the clock, which is the next event
abbrev pub move_ending : BoardEvent → PlainState → Ending ℕ
move_ending event plain =
    ending_of (move_refusal event plain) (next_number plain)
    (with_event (record plain { holds = after_hold event plain.holds })) plain

-- the fault of a page: the numbers of the next page's events may be over 2^52
abbrev pub page_refusal : PlainState → Option BookFault
page_refusal plain = if nat_lt (2 ^ 52 - 2 ^ 20) (next_number plain) then Some PagesSpent else None

-- a page: the number of its first event and how many events it has; there are none after it
abbrev pub page_ending : PlainState → Ending Extent
page_ending plain =
    ending_of (page_refusal plain)
    (record { first = plain.first; count = plain.events })
    (record plain { first = next_number plain; events = 0 }) plain

-- the sets that the route of a question reads, in the order of reading (RFC 3263, 4)
abbrev pub sets_read : Question → PlainState → List (Key × List Data)
sets_read question plain =
    map (λ key. (key, sets_in plain key)) (reads (sets_in plain) question plain.client)

-- the listed sets, without their numbers
abbrev pub sets_listed : Result (List Item) BookFault → Result (List (Key × List Data)) BookFault
sets_listed (Ok items) = Ok (map (λ item. (item.key, item.content)) items)
sets_listed (Err fault) = Err fault

-- a call ends so; or an allocation failed, and the state is as it was, where it has no fault but too few
-- numbers of sets: each other fault is found before anything is allocated
abbrev pub EndsSo : {A : Type 0} → Ending A → PlainState → Result A BookFault → PlainState → Type 0
EndsSo ending before outcome after =
    ((outcome ≡ ending.0) × (after ≡ ending.1))
    ⊎ (IfErr ending.0 (λ fault. fault ≡ Store NumberSpent)
    × (outcome ≡ Err Memory) × (after ≡ before))

-- what the calls of the plain machine do; there is nothing that a repair has to look up again
abbrev pub plain_rules : DeskRules PlainState BookFault
plain_rules =
    record {
      Finds = λ question words before outcome after.
          EndsSo (find_ending question words before) before outcome after;
      Changes = λ edit before outcome after. EndsSo (change_ending edit before) before outcome after;
      Moves = λ event before outcome after. EndsSo (move_ending event before) before outcome after;
      Depends = λ question before outcome after.
          EndsSo (Ok (sets_read question before), before) before (sets_listed outcome) after;
      Repairs = λ before outcome after. EndsSo (Ok tt, before) before outcome after;
      Pages = λ before outcome after. EndsSo (page_ending before) before outcome after;
      Pauses = λ before after. after ≡ before;
      IsTime = λ plain now. now ≡ plain.holds.now;
      zone_octets = λ plain. None;
      fault_text = book_code;
    }
