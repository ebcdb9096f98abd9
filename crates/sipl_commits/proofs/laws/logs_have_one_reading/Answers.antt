use Rattle.sipl_commits.proofs.Readings.{one_reading}
use Rattle.sipl_commits.proofs.laws.logs_have_one_reading.Goals as goal

pub returns : goal.returns
returns c = one_reading
