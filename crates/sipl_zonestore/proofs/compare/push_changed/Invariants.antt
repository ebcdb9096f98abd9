use Rattle.std.proofs.Common.{◌≡◌, List, [], take}
use Rattle.sipl_records.specs.declared.record.Record.{Record}
use Rattle.sipl_zonestore.specs.Store.{records_within}
use Rattle.sipl_zonestore.specs.Changes.{changed_among}
use Rattle.sipl_zonestore.specs.SetTable.{HasSets}
use Rattle.sipl_zonestore.proofs.compare.push_changed.Given as goal

abbrev pub invariant-loop-record : goal.invariant-loop-record
invariant-loop-record l =
    (text : List Record) → HasSets l.new text → l.initial.keys.items ≡ changed_among l.records text [] → l.keys.items ≡ changed_among l.records text (records_within l.apex (take l.record-index l.records))
