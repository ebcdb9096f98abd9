-- The edits of a store's zones: what each changes, and why it is refused.
use Rattle.std.specs.Prelude.{ℕ, not, List, [], ◌∷◌, ◌++◌, length, filter, count_by, Option, None, Some, nat_lt, nat_le, if◌then◌else◌}
use Rattle.std.specs.List.{list_any}
use Rattle.sipl_names.specs.Labels.{Labels, is_wildcard, same_name}
use Rattle.sipl_records.specs.Sets.{conflicts, same_record, shares_set}
use Rattle.sipl_records.specs.declared.record.Record.{Record}
use Rattle.sipl_masterfile.specs.Zones.{Zone}
use Rattle.sipl_zonestore.specs.Store.{Zones, overlaps, is_covered, records_outside, records_after_load, apexes_after_load, apexes_without}
use Rattle.sipl_zonestore.specs.declared.fault.StoreFault.{StoreFault}
use Rattle.sipl_zonestore.specs.declared.fault.StoreFault.TheVariants.{Overlap, NoZone, Duplicate, Absent, AliasBesideData, SetFull, StoreFull, WildApex}

-- an edit: a zone is loaded or unloaded, a record is added or removed
pub data Edit : Type 0 where
  load : Zone → Edit
  unload : Labels → Edit
  add : Record → Edit
  remove : Record → Edit

-- the records without the one that is equal to this
abbrev pub records_without : Record → List Record → List Record
records_without r records = filter (λ other. not (same_record r other)) records

-- the zones after an edit: a zone that is loaded replaces what is within its apex; with a zone that
-- is unloaded all records within its apex are gone; a record that is added is last
abbrev pub after : Edit → Zones → Zones
after (load zone) zones =
    record {
      apexes = apexes_after_load zone.apex zones.apexes;
      records = records_after_load zone zones.records;
    }
after (unload apex) zones =
    record {
      apexes = apexes_without apex zones.apexes;
      records = records_outside apex zones.records;
    }
after (add r) zones = record { apexes = zones.apexes; records = zones.records ++ r ∷ [] }
after (remove r) zones = record { apexes = zones.apexes; records = records_without r zones.records }

-- the fault of adding a record, which is the first of its causes
abbrev pub add_refusal : ℕ → Record → Zones → Option StoreFault
add_refusal max_records r zones =
    if not (is_covered zones.apexes r.owner) then Some NoZone
    else (if list_any (same_record r) zones.records then Some Duplicate
    else (if list_any (conflicts r) zones.records then Some AliasBesideData
    else (if nat_le 32 (count_by (shares_set r) zones.records) then Some SetFull
    else (if nat_le max_records (length zones.records) then Some StoreFull else None))))

-- the fault of an edit of zones that have at most this many records: the first of its causes
abbrev pub refusal_of : ℕ → Edit → Zones → Option StoreFault
refusal_of max_records (load zone) zones =
    if is_wildcard zone.apex then Some WildApex
    else (if list_any (overlaps zone.apex) zones.apexes then Some Overlap
    else (if nat_lt max_records (length (records_after_load zone zones.records)) then Some StoreFull
    else None))
refusal_of max_records (unload apex) zones =
    if list_any (same_name apex) zones.apexes then None else Some NoZone
refusal_of max_records (add r) zones = add_refusal max_records r zones
refusal_of max_records (remove r) zones =
    if not (is_covered zones.apexes r.owner) then Some NoZone
    else (if list_any (same_record r) zones.records then None else Some Absent)
