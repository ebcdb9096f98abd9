-- Lists of edits, from a state to the state after them.
use Rattle.std.specs.Prelude.{ℕ, List, [], ◌∷◌, Option, None, Some}
use Rattle.std.specs.Option.{option_or}
use Rattle.sipl_records.specs.declared.record.Key.{Key}
use Rattle.sipl_zonestore.specs.Store.{Zones, no_zones}
use Rattle.sipl_zonestore.specs.Edits.{Edit, after, refusal_of}
use Rattle.sipl_zonestore.specs.Numbers.{numbered_keys, number_after, next_after, number_refusal}
use Rattle.sipl_zonestore.specs.declared.fault.StoreFault.{StoreFault}

-- zones whose sets are numbered, with the next number
pub record NumberedZones : Type 0 where
  pub zones : Zones
  pub numbers : Key → ℕ
  pub next : ℕ

-- nothing is loaded, and no number but those before this one was taken
abbrev pub numbered_from : ℕ → NumberedZones
numbered_from next = record { zones = no_zones; numbers = λ key. 0; next = next }

-- the keys whose sets an edit numbers
abbrev pub taken_keys : Edit → NumberedZones → List Key
taken_keys edit state = numbered_keys state.zones.records (after edit state.zones).records

-- the state after an edit that is accepted
abbrev pub after_accepted : Edit → NumberedZones → NumberedZones
after_accepted edit state =
    record {
      zones = after edit state.zones;
      numbers =
          number_after state.zones.records (after edit state.zones).records state.next state.numbers;
      next = next_after state.zones.records (after edit state.zones).records state.next;
    }

-- the fault of an edit, in zones of at most this many records
abbrev pub refusal_in : ℕ → Edit → NumberedZones → Option StoreFault
refusal_in max_records edit state =
    option_or (refusal_of max_records edit state.zones)
    (number_refusal state.zones.records (after edit state.zones).records state.next)

-- a refused edit changes nothing
abbrev pub after_unless : Option StoreFault → Edit → NumberedZones → NumberedZones
after_unless (Some fault) edit state = state
after_unless None edit state = after_accepted edit state

-- the state after one edit after another
abbrev pub after_edits : ℕ → List Edit → NumberedZones → NumberedZones
after_edits max_records [] state = state
after_edits max_records (edit ∷ edits) state =
    after_edits max_records edits (after_unless (refusal_in max_records edit state) edit state)
