use Rattle.sipl_plans.specs.Route.{route}
use Rattle.sipl_plans.proofs.Policies.{draw-agree}
use Rattle.sipl_plans.proofs.laws.policies_agree_where_nothing_is_held.Goals as goal

pub returns : goal.returns
returns c = λ look holds question client words none. draw-agree holds words none (route look question client)
