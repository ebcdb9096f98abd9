use Rattle.std.proofs.Common.{◌≡◌, ◌++◌, take, vec_capacity}
use Rattle.sipl_zonestore.specs.RecordList.{codes_of}
use Rattle.sipl_zonestore.proofs.owner_codes.push_codes.Given as goal

abbrev pub invariant-loop-record : goal.invariant-loop-record
invariant-loop-record l = (l.codes.items ≡ l.initial.codes.items ++ codes_of (take l.record-index l.records)) × (vec_capacity l.codes ≡ vec_capacity l.initial.codes)
