use Rattle.sipl_repair.proofs.Runs.{consistent_after_calls}
use Rattle.sipl_repair.proofs.laws.consistent_after_any_calls.Goals as goal

pub returns : goal.returns
returns c = consistent_after_calls
