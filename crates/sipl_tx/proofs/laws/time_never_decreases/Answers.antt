use Rattle.sipl_tx.proofs.RunLaws.{time_goes_on_over}
use Rattle.sipl_tx.proofs.laws.time_never_decreases.Goals as goal

pub returns : goal.returns
returns c = time_goes_on_over
