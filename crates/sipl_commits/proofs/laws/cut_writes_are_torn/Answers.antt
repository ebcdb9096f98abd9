use Rattle.sipl_commits.proofs.Cutting.{cut_torn}
use Rattle.sipl_commits.proofs.laws.cut_writes_are_torn.Goals as goal

pub returns : goal.returns
returns c = cut_torn
