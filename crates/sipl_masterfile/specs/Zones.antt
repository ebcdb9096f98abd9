-- The zone of a master file (RFC 1035, 5.1): its entries are read one after another.
use Rattle.std.specs.Prelude.{◌≡◌, ℕ, ◌+◌, Bool, true, false, not, ◌||◌, List, [], ◌∷◌, ◌++◌, Option, None, Some, Result, Ok, Err, AllPairs, count_by, nat_le, if◌then◌else◌}
use Rattle.std.specs.List.{list_any, list_all}
use Rattle.sipl_names.specs.Labels.{Octets, Labels, is_within}
use Rattle.sipl_records.specs.Sets.{same_record, conflicts, shares_set}
use Rattle.sipl_records.specs.declared.record.Record.{Record}
use Rattle.sipl_masterfile.specs.Entries.{Entry, entries_of}
use Rattle.sipl_masterfile.specs.Readers.{◌>>=◌}
use Rattle.sipl_masterfile.specs.Statements.{statement_of}
use Rattle.sipl_masterfile.specs.declared.fault.ZoneCause.{ZoneCause}
use Rattle.sipl_masterfile.specs.declared.fault.ZoneCause.TheVariants.{AliasBesideData, SetFull}
use Rattle.sipl_masterfile.specs.declared.fault.ZoneFault.{ZoneFault}
use Rattle.sipl_masterfile.specs.declared.statement.Statement.{Statement}
use Rattle.sipl_masterfile.specs.declared.statement.Statement.TheVariants as statement

-- what callers see of a zone's text: its apex, its records, and how many records were left out,
-- since their owner is outside the apex or since they are repeated
pub record Zone : Type 0 where
  pub apex : Labels
  pub records : List Record
  pub outside : ℕ
  pub repeated : ℕ

-- whether a record is there twice
abbrev pub has_repeats : List Record → Bool
has_repeats [] = false
has_repeats (r ∷ records) = list_any (same_record r) records || has_repeats records

-- whether the set of each record has at most 32 records
abbrev pub sets_fit : List Record → Bool
sets_fit records = list_all (λ r. nat_le (count_by (shares_set r) records) 32) records

-- what holds of each zone's text: all owners are within the apex, no record is there twice, no
-- alias has other data beside it, no set has over 32 records
pub record IsZone (zone : Zone) : Type 0 where
  pub within : list_all (λ r. is_within r.owner zone.apex) zone.records ≡ true
  pub distinct : has_repeats zone.records ≡ false
  pub aliases : AllPairs (λ a b. conflicts a b ≡ false) zone.records
  pub fits : sets_fit zone.records ≡ true

-- the zone of a text without records
abbrev pub empty_zone : Labels → Zone
empty_zone apex = record { apex = apex; records = []; outside = 0; repeated = 0 }

-- the zone once a record is taken in, or the cause why it is not: a record whose owner is outside
-- the apex is left out, and so is one that was taken in before; no alias has other data beside it
-- (RFC 1034, 3.6.2; RFC 2181, 10.1); no set has a 33rd record
abbrev pub take_in : Record → Zone → Result Zone ZoneCause
take_in r zone =
    if not (is_within r.owner zone.apex) then Ok (record zone { outside = zone.outside + 1 })
    else (if list_any (same_record r) zone.records
    then Ok (record zone { repeated = zone.repeated + 1 })
    else (if list_any (conflicts r) zone.records then Err AliasBesideData
    else (if nat_le 32 (count_by (shares_set r) zone.records) then Err SetFull
    else Ok (record zone { records = zone.records ++ r ∷ [] }))))

-- a text that is read up to some entry: the origin, the owner of the last record, if there was one,
-- and the zone of the entries before
pub record Reading : Type 0 where
  pub origin : Labels
  pub owner : Option Labels
  pub zone : Zone

-- RFC 1035, 5.1: at first, the origin is the apex
abbrev pub first_reading : Labels → Reading
first_reading apex = record { origin = apex; owner = None; zone = empty_zone apex }

-- a record is taken in, and its owner is the last one, even where it is outside the apex; a ttl
-- changes nothing
abbrev pub after_statement : Statement → Reading → Result Reading ZoneCause
after_statement (statement.Record r) reading =
    take_in r reading.zone
    >>= (λ zone. Ok (record { origin = reading.origin; owner = Some r.owner; zone = zone }))
after_statement (statement.Origin name) reading = Ok (record reading { origin = name })
after_statement statement.Ttl reading = Ok reading

-- the fields of an entry are what it states
abbrev pub after_fields : Bool → List Octets → Reading → Result Reading ZoneCause
after_fields is_indented fields reading =
    statement_of is_indented fields reading.origin reading.owner
    >>= (λ stated. after_statement stated reading)

-- an entry whose fields are not well formed has that cause
abbrev pub after_entry : Entry → Reading → Result Reading ZoneCause
after_entry entry reading =
    entry.content >>= (λ fields. after_fields entry.is_indented fields reading)

-- entries are read one after another, up to the first one with a cause, which is a fault at its line
abbrev pub after_entries : List Entry → Reading → Result Reading ZoneFault
after_entries [] reading = Ok reading
after_entries (entry ∷ entries) reading = elim (after_entry entry reading) [
  | Ok next ↦ after_entries entries next
  | Err cause ↦ Err (record { line = entry.line; cause = cause })
]

-- the zone of a text with this apex, or the text's first fault
abbrev pub zone_of : Octets → Labels → Result Zone ZoneFault
zone_of text apex = elim (after_entries (entries_of text) (first_reading apex)) [
  | Ok reading ↦ Ok reading.zone
  | Err fault ↦ Err fault
]
