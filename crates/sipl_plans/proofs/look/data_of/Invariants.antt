use Rattle.std.proofs.Common.{◌≡◌, ◌++◌, drop}
use Rattle.sipl_records.specs.Sets.{data_of}
use Rattle.sipl_plans.proofs.look.data_of.Given as goal

-- the data of the records before this one and those of the records left are all data of the key
abbrev pub invariant-loop-record : goal.invariant-loop-record
invariant-loop-record l =
    l.set.items ++ data_of (drop l.record-index l.records) l.key ≡ data_of l.records l.key
