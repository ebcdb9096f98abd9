use Rattle.std.proofs.Common.{◌≡◌, drop}
use Rattle.sipl_records.specs.Sets.{exists_in}
use Rattle.sipl_plans.proofs.look.exists.Given as goal

-- a record of the name or below it is among the records left
abbrev pub invariant-loop-record : goal.invariant-loop-record
invariant-loop-record l =
    exists_in (drop l.record-index l.records) l.name ≡ exists_in l.records l.name
