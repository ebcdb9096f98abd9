use Rattle.sipl_commits.proofs.Cutting.{cut_log}
use Rattle.sipl_commits.proofs.laws.cut_logs_have_their_first_commits.Goals as goal

pub returns : goal.returns
returns c = cut_log
