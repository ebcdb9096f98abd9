use Rattle.std.proofs.Common.{◌≡◌}
use Rattle.sipl_evidence.specs.Known.{advance}
use Rattle.sipl_plans.specs.Stages.{reading}
use Rattle.sipl_plans.proofs.Advancing.{known_count}
use Rattle.sipl_plans.proofs.stage.read.Given as goal

abbrev pub invariant-loop-purpose : goal.invariant-loop-purpose
invariant-loop-purpose l =
    advance l.evidence (reading l.domain l.walk l.purpose) ≡ advance l.evidence (reading l.fn.domain l.fn.walk l.fn.purpose)

abbrev pub decreases-loop-purpose : goal.decreases-loop-purpose
decreases-loop-purpose l = known_count l.evidence (reading l.domain l.walk l.purpose)
