use Rattle.sipl_commits.proofs.Unfinished.{unfinished}
use Rattle.sipl_commits.proofs.laws.unfinished_writes_are_torn.Goals as goal

pub returns : goal.returns
returns c = unfinished
