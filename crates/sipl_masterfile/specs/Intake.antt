-- A zone whose records are taken in one by one.
use Rattle.std.specs.Prelude.{◌≡◌, ◌+◌, ◌≤◌, [], ◌∷◌, ◌++◌, Ok}
use Rattle.sipl_records.specs.declared.record.Record.{Record}
use Rattle.sipl_masterfile.specs.Zones.{Zone, IsZone, take_in}
use Rattle.sipl_masterfile.specs.ZoneText.{zone_with}
use Rattle.sipl_masterfile.specs.declared.intake.Intake.TheInside.{Inside}

-- the zone of the records that were taken in
abbrev pub state_of : Inside → Zone
state_of z = zone_with z.apex z.records z.outside z.repeated

-- what was taken in is a zone
abbrev pub IsIntake : Inside → Type 0
IsIntake z = IsZone (state_of z)

-- the zone with one more record
abbrev pub with_record : Record → Zone → Zone
with_record r zone = record zone { records = zone.records ++ r ∷ [] }

-- a record that is to be appended
pub record Fits (r : Record) (before after : Zone) : Type 0 where
  pub taken : take_in r before ≡ Ok (with_record r before)
  pub zone : IsZone (with_record r before)
  pub unchanged : after ≡ before

-- a record that is left out and counted
pub record IsLeftOut (r : Record) (before after : Zone) : Type 0 where
  pub taken : take_in r before ≡ Ok after
  pub counted : after.outside + after.repeated ≤ before.outside + before.repeated + 1
