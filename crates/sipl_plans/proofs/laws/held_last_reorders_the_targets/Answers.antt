use Rattle.sipl_plans.specs.Route.{route}
use Rattle.sipl_plans.proofs.Policies.{draw-reordered}
use Rattle.sipl_plans.proofs.laws.held_last_reorders_the_targets.Goals as goal

pub returns : goal.returns
returns c = λ look holds free question client words none. draw-reordered holds words free none (route look question client)
