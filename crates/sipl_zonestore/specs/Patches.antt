-- What a text changes in the list of records.
use Rattle.std.specs.Prelude.{◌≡◌, ◌≤◌, ◌++◌, List, length, take, drop, slice_range, if◌then◌else◌}
use Rattle.sipl_names.specs.Labels.{Labels}
use Rattle.sipl_records.specs.declared.record.Record.{Record}
use Rattle.sipl_zonestore.specs.Store.{records_outside, records_within}
use Rattle.sipl_zonestore.specs.declared.patches.Patch.{Patch}

-- the list with new records in place of a part of it, or of those within the apex
abbrev pub patched : Labels → List Record → Patch → List Record → List Record
patched apex records patch new =
    if patch.is_last then take patch.start records ++ (new ++ drop patch.end records)
    else records_outside apex records ++ new

-- The parts are within the list and the text. With the part of the text the list is as the load leaves it,
-- and the records of the zone are those of the text but for the parts.
pub record IsPatch (apex : Labels) (records text : List Record) (patch : Patch) : Type 0 where
  pub order : patch.start ≤ patch.end
  pub limit : patch.end ≤ length records
  pub text_order : patch.first ≤ patch.last
  pub text_limit : patch.last ≤ length text
  pub replaced : patched apex records patch (slice_range text patch.first patch.last)
      ≡ records_outside apex records ++ text
  pub zone : records_within apex records ≡ take patch.first text
      ++ (records_within apex (slice_range records patch.start patch.end) ++ drop patch.last text)
