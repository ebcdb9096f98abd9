use Rattle.sipl_laws.proofs.Closest.{closest-equal}
use Rattle.sipl_laws.proofs.laws.closest_enclosers_are_equal.Goals as goal

pub returns : goal.returns
returns c = closest-equal
