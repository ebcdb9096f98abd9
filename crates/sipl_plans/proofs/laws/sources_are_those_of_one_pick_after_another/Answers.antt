use Rattle.sipl_plans.proofs.Equations.{sources_cons}
use Rattle.sipl_plans.proofs.laws.sources_are_those_of_one_pick_after_another.Goals as goal

pub returns-clause-next : goal.returns-clause-next
returns-clause-next c = sources_cons
