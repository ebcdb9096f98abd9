-- The zone that is read of a text.
use Rattle.std.specs.Prelude.{ℕ, List}
use Rattle.std.specs.Arc.{arc_value}
use Rattle.sipl_names.specs.Labels.{Labels}
use Rattle.sipl_records.specs.declared.record.Record.{Record}
use Rattle.sipl_masterfile.specs.Zones.{Zone, IsZone}
use Rattle.sipl_masterfile.specs.declared.zone.ZoneText.TheInside.{Inside}

-- the zone with these records, and with so many left out
abbrev pub zone_with : Labels → List Record → ℕ → ℕ → Zone
zone_with apex records outside repeated =
    record { apex = apex; records = records; outside = outside; repeated = repeated }

-- what a `ZoneText` shows
abbrev pub state_of : Inside → Zone
state_of z = zone_with z.apex (arc_value z.records).items z.outside z.repeated

-- all owners are within the apex, no record is there twice, no alias has other data beside it, no
-- set has over 32 records
abbrev pub IsZoneText : Inside → Type 0
IsZoneText z = IsZone (state_of z)
