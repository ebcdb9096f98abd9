use Rattle.std.proofs.Common.{◌≡◌, take}
use Rattle.sipl_zonestore.proofs.indexed_records.copy_records.Given as goal

abbrev pub invariant-loop-record : goal.invariant-loop-record
invariant-loop-record l = l.copies.items ≡ take l.record-index l.records
