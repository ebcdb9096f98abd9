use Rattle.sipl_plans.proofs.Equations.{addresses_cons}
use Rattle.sipl_plans.proofs.laws.addresses_are_those_of_one_family_after_another.Goals as goal

pub returns-clause-next : goal.returns-clause-next
returns-clause-next c = addresses_cons
