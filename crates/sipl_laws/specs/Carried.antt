-- Events that the plain machine carries out.
use Rattle.std.specs.Prelude.{◌≡◌, ◌++◌, ◌∷◌, [], List, None, codes}
use Rattle.sipl_names.specs.Labels.{Octets}
use Rattle.sipl_records.specs.Sets.{set_of}
use Rattle.sipl_masterfile.specs.Zones.{IsZone}
use Rattle.sipl_uri.specs.QuestionText.{question_text}
use Rattle.sipl_outages.specs.Holds.{BoardEvent, refusal_of, after as after_event}
use Rattle.sipl_outages.specs.Holds.BoardEvent.{Hold as HoldFor, Release as ReleaseOf, Advance as AdvanceTo}
use Rattle.sipl_zonestore.specs.Edited.{store_refusal}
use Rattle.sipl_zonestore.specs.Edits.{after as after_edit}
use Rattle.sipl_zonestore.specs.Looks.{looked}
use Rattle.sipl_zonestore.specs.Numbers.{next_after}
use Rattle.sipl_plans.specs.Plan.{plan}
use Rattle.sipl_book.specs.Machine.{zone_edit}
use Rattle.sipl_book.specs.declared.edit.Edit.{Edit}
use Rattle.sipl_book.specs.declared.edit.Edit.TheVariants.{Load}
use Rattle.sipl_book.specs.declared.event.Event.{Event}
use Rattle.sipl_book.specs.declared.event.Event.TheVariants.{Change, Hold, Release, Advance, Answer as Answered}
use Rattle.sipl_archive.specs.Plain.{PlainState}
use Rattle.sipl_lines.specs.CommandText.{event_lines, words_field}

-- the lines of an event without its reply
abbrev pub event_command : Event → Octets
event_command (Answered question words answer) =
    codes "find " ++ question_text question ++ words_field words ++ 10 ∷ []
event_command (Change edit) = event_lines (Change edit)
event_command (Hold endpoint ms) = event_lines (Hold endpoint ms)
event_command (Release endpoint) = event_lines (Release endpoint)
event_command (Advance to) = event_lines (Advance to)

-- a zone that the event loads is one: what holds of each zone's text holds of it
abbrev pub LoadsZone : Event → Type 0
LoadsZone (Change (Load zone)) = IsZone zone
LoadsZone _ = Unit {0}

-- no fault applies to a change of the machine, and an answer is that of its records and holds
abbrev pub Accepts : PlainState → Event → Type 0
Accepts plain (Change edit) = store_refusal (zone_edit edit) plain.store ≡ None
Accepts plain (Hold endpoint ms) =
    refusal_of plain.board.max_holds (HoldFor endpoint ms) plain.board.holds ≡ None
Accepts plain (Release endpoint) =
    refusal_of plain.board.max_holds (ReleaseOf endpoint) plain.board.holds ≡ None
Accepts plain (Advance to) = refusal_of plain.board.max_holds (AdvanceTo to) plain.board.holds ≡ None
Accepts plain (Answered question words answer) =
    answer ≡ plan (set_of plain.store.zones.records) plain.board.holds question plain.client words plain.held

-- the machine with other holds
abbrev pub moved : BoardEvent → PlainState → PlainState
moved event plain =
    record plain { board = record plain.board { holds = after_event event plain.board.holds } }

-- the machine with other zones
abbrev pub edited : Edit → PlainState → PlainState
edited edit plain =
    record plain {
      store = record plain.store {
        zones = after_edit (zone_edit edit) plain.store.zones;
        next = next_after plain.store.zones.records
            (after_edit (zone_edit edit) plain.store.zones).records plain.store.next;
      };
    }

-- the machine after an event; an answer is one look more
abbrev pub plain_after : Event → PlainState → PlainState
plain_after (Change edit) plain = edited edit plain
plain_after (Hold endpoint ms) plain = moved (HoldFor endpoint ms) plain
plain_after (Release endpoint) plain = moved (ReleaseOf endpoint) plain
plain_after (Advance to) plain = moved (AdvanceTo to) plain
plain_after (Answered question words answer) plain = record plain { store = looked plain.store }

-- each event is accepted by the machine after those before it
abbrev pub AcceptsAll : PlainState → List Event → Type 0
AcceptsAll plain [] = Unit {0}
AcceptsAll plain (event ∷ events) = Accepts plain event × AcceptsAll (plain_after event plain) events

-- the machine after events
abbrev pub all_after : List Event → PlainState → PlainState
all_after [] plain = plain
all_after (event ∷ events) plain = all_after events (plain_after event plain)
