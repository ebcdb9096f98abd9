use Rattle.sipl_interleave.proofs.Lasting.{step-world}
use Rattle.sipl_interleave.proofs.laws.worlds_stay_worlds.Goals as goal

pub returns : goal.returns
returns c = λ step old new reply good made. step-world step old new reply good made
