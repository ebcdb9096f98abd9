use Rattle.sipl_commits.proofs.Cutting.{damaged}
use Rattle.sipl_commits.proofs.laws.commits_before_others_are_damaged.Goals as goal

pub returns : goal.returns
returns c = damaged
