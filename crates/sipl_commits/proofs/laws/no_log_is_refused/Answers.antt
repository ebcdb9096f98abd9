use Rattle.sipl_commits.proofs.Readings.{not_refused}
use Rattle.sipl_commits.proofs.laws.no_log_is_refused.Goals as goal

pub returns : goal.returns
returns c = not_refused
