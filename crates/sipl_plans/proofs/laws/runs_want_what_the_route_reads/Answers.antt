use Rattle.sipl_plans.specs.Route.{asking_route}
use Rattle.sipl_plans.proofs.Unread.{reads-trace}
use Rattle.sipl_plans.proofs.laws.runs_want_what_the_route_reads.Goals as goal

pub returns : goal.returns
returns c = λ run look is agrees. reads-trace (asking_route run.question run.client) run.items look agrees is.trace
