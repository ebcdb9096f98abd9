use Rattle.sipl_plans.specs.Route.{route}
use Rattle.sipl_laws.proofs.HeldInOrder.{draw-targets, draw-none}
use Rattle.sipl_laws.proofs.laws.held_last_keeps_the_order.Goals as goal

pub returns : goal.returns
returns c = record {
  targets = λ look holds free question client words targets none is. draw-targets free none holds words (route look question client) targets is;
  none = λ look holds free question client words reason none is. draw-none free none holds words (route look question client) reason is;
}
