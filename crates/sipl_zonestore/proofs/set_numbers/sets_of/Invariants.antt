use Rattle.std.proofs.Common.{◌≡◌, take}
use Rattle.sipl_records.specs.declared.record.Key.{Key}
use Rattle.sipl_records.specs.Sets.{data_of}
use Rattle.sipl_zonestore.specs.Content.{carried}
use Rattle.sipl_zonestore.specs.SetTable.{content_of}
use Rattle.sipl_zonestore.proofs.set_numbers.sets_of.Given as goal

abbrev pub invariant-loop-record : goal.invariant-loop-record
invariant-loop-record l =
    (key : Key) → content_of l.sets key ≡ carried (content_of l.old key).number (data_of (take l.record-index l.records) key)
