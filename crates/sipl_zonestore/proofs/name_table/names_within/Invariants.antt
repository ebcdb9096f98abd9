use Rattle.std.proofs.Common.{◌≡◌, take}
use Rattle.std.specs.Map.{keys_of}
use Rattle.sipl_zonestore.specs.Changes.{existing_names}
use Rattle.sipl_zonestore.specs.NameTable.{HasNames}
use Rattle.sipl_zonestore.specs.Store.{records_within}
use Rattle.sipl_zonestore.proofs.name_table.names_within.Given as goal

abbrev pub invariant-loop-record : goal.invariant-loop-record
invariant-loop-record l =
    record {
      counts : HasNames l.names.entries (records_within l.apex (take l.record-index l.records));
      keys : keys_of l.names.entries ≡ existing_names (records_within l.apex (take l.record-index l.records));
    }
