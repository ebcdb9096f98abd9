use Rattle.std.proofs.Common.{◌≡◌, length}
use Rattle.sipl_records.specs.Fields.{trim_start}
use Rattle.sipl_records.proofs.field.trim_start.Given as goal

abbrev pub invariant-loop-rest : goal.invariant-loop-rest
invariant-loop-rest l = trim_start l.rest ≡ trim_start l.line

abbrev pub decreases-loop-rest : goal.decreases-loop-rest
decreases-loop-rest l = length l.rest
