use Rattle.sipl_plans.specs.Route.{route}
use Rattle.sipl_plans.proofs.Policies.{draw-first}
use Rattle.sipl_plans.proofs.laws.free_targets_come_first.Goals as goal

pub returns : goal.returns
returns c = λ look holds question client words targets is. draw-first holds words (route look question client) targets is
