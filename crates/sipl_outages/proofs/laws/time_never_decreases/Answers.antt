use Rattle.sipl_outages.proofs.Runs.{now-after_all}
use Rattle.sipl_outages.proofs.laws.time_never_decreases.Goals as goal

pub returns : goal.returns
returns c = now-after_all
