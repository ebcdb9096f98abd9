use Rattle.sipl_records.proofs.Conflicts.{conflicts-sym}
use Rattle.sipl_records.proofs.laws.conflicts_are_mutual.Goals as goal

pub returns : goal.returns
returns c = λ a b. conflicts-sym a b
