use Rattle.sipl_plans.specs.Route.{route}
use Rattle.sipl_plans.proofs.Policies.{draw-all}
use Rattle.sipl_plans.proofs.laws.all_held_are_tried_as_if_none_were.Goals as goal

pub returns : goal.returns
returns c = λ look holds free question client words none is. draw-all holds words free none (route look question client) is
