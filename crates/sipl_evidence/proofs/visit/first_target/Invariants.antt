use Rattle.std.proofs.Common.{◌≡◌, drop}
use Rattle.sipl_evidence.specs.Answers.{first_target}
use Rattle.sipl_evidence.proofs.visit.first_target.Given as goal

abbrev pub invariant-loop-datum : goal.invariant-loop-datum
invariant-loop-datum l = first_target (drop l.datum-index l.values) ≡ first_target l.values
