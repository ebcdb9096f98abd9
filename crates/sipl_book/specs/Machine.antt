-- The plain machine: the zones, the holds and the clock, what each event does to them, and which
-- events it accepts. It has no number, no entry and no worker.
use Rattle.std.specs.Prelude.{◌≡◌, ℕ, List, [], ◌∷◌, None}
use Rattle.sipl_records.specs.Sets.{set_of}
use Rattle.sipl_choice.specs.Abilities.{Client}
use Rattle.sipl_uri.specs.declared.question.Question.{Question}
use Rattle.sipl_outages.specs.Holds.{Holds, no_holds, refusal_of as hold_refusal, after as after_hold}
use Rattle.sipl_outages.specs.Holds.BoardEvent.{Hold as HoldFor, Release as ReleaseOf, Advance as AdvanceTo}
use Rattle.sipl_outages.specs.declared.held.Held.{Held}
use Rattle.sipl_zonestore.specs.Store.{Zones, no_zones}
use Rattle.sipl_zonestore.specs.Edits.{Edit as ZoneEdit, load, unload, add, remove, refusal_of as edit_refusal, after as after_edit}
use Rattle.sipl_plans.specs.Plan.{plan}
use Rattle.sipl_plans.specs.declared.answer.Answer.{Answer as Targets}
use Rattle.sipl_book.specs.declared.edit.Edit.{Edit}
use Rattle.sipl_book.specs.declared.edit.Edit.TheVariants.{Load, Unload, Add, Remove}
use Rattle.sipl_book.specs.declared.event.Event.{Event}
use Rattle.sipl_book.specs.declared.event.Event.TheVariants.{Change, Hold, Release, Advance, Answer}

-- the loaded zones with their records, and the holds with the time
pub record State : Type 0 where
  pub zones : Zones
  pub holds : Holds

-- nothing is loaded or held, at time 0
abbrev pub empty_state : State
empty_state = record { zones = no_zones; holds = no_holds }

-- what an edit does to the zones
abbrev pub zone_edit : Edit → ZoneEdit
zone_edit (Load zone) = load zone
zone_edit (Unload apex) = unload apex
zone_edit (Add r) = add r
zone_edit (Remove r) = remove r

-- the answer to a question, from scratch on the records and the holds as they are, by a policy on
-- held endpoints (RFC 3263, 4)
abbrev pub answer_in : State → Question → Client → Held → List ℕ → Targets
answer_in state question client held words =
    plan (set_of state.zones.records) state.holds question client words held

-- the state after an event; an answer changes nothing
abbrev pub after : Event → State → State
after (Change edit) state =
    record { zones = after_edit (zone_edit edit) state.zones; holds = state.holds }
after (Hold endpoint ms) state =
    record { zones = state.zones; holds = after_hold (HoldFor endpoint ms) state.holds }
after (Release endpoint) state =
    record { zones = state.zones; holds = after_hold (ReleaseOf endpoint) state.holds }
after (Advance to) state =
    record { zones = state.zones; holds = after_hold (AdvanceTo to) state.holds }
after (Answer question words answer) state = state

-- whether an event is what happens in the state: no fault applies to a change, with the greatest
-- limits of 1,048,576 records and 4,096 holds, and an answer is that of the records and the holds by
-- the policy
abbrev pub IsAccepted : Client → Held → Event → State → Type 0
IsAccepted client held (Change edit) state =
    edit_refusal 1048576 (zone_edit edit) state.zones ≡ None
IsAccepted client held (Hold endpoint ms) state =
    hold_refusal 4096 (HoldFor endpoint ms) state.holds ≡ None
IsAccepted client held (Release endpoint) state =
    hold_refusal 4096 (ReleaseOf endpoint) state.holds ≡ None
IsAccepted client held (Advance to) state = hold_refusal 4096 (AdvanceTo to) state.holds ≡ None
IsAccepted client held (Answer question words answer) state =
    answer ≡ answer_in state question client held words

-- a journal is legal from a state: each of its events is what happens in the state at its place
abbrev pub IsLegal : Client → Held → List Event → State → Type 0
IsLegal client held [] state = Unit {0}
IsLegal client held (event ∷ events) state =
    IsAccepted client held event state × IsLegal client held events (after event state)

-- the state after the events of a journal
abbrev pub replay : List Event → State → State
replay [] state = state
replay (event ∷ events) state = replay events (after event state)
