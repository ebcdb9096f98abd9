-- The text of a zone's records is read as the zone.
use Rattle.std.proofs.Common.{◌≡◌, List, [], ◌∷◌, ◌++◌, None, Result, Ok, Err, ap}
use Rattle.std.specs.List.{AllByRecursion, flat_map}
use Rattle.sipl_names.specs.Labels.{Labels}
use Rattle.sipl_records.specs.declared.record.Record.{Record}
use Rattle.sipl_masterfile.specs.Entries.{entries_of}
use Rattle.sipl_masterfile.specs.RecordPrint.{IsRecord, record_text}
use Rattle.sipl_masterfile.specs.ZoneText.{zone_with}
use Rattle.sipl_masterfile.specs.Zones.{IsZone, Reading, Zone, zone_of}
use Rattle.sipl_masterfile.specs.declared.fault.ZoneFault.{ZoneFault}
use Rattle.sipl_laws.proofs.LineEntries.{Printing, lines-of}
use Rattle.sipl_laws.proofs.TakenIn.{entries-taken}

pub zone-read : Printing → (apex : Labels) (records : List Record) → AllByRecursion IsRecord records → IsZone (zone_with apex records 0 0) → zone_of (flat_map (λ r. record_text r ++ 10 ∷ []) records) apex ≡ Ok (zone_with apex records 0 0)
zone-read printing apex records all is =
    let entries = entries_of (flat_map (λ (r : Record). record_text r ++ 10 ∷ []) records) in
    let read = entries-taken printing apex apex None [] records entries all (lines-of printing records all) is in
    ap (λ (given : Result Reading ZoneFault). elim given as (λ _. Result Zone ZoneFault) [ Ok reading ↦ Ok reading.zone | Err fault ↦ Err fault ]) read.1
