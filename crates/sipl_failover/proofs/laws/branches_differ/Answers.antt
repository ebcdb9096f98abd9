use Rattle.sipl_failover.proofs.BranchLemmas.{branch_injective}
use Rattle.sipl_failover.proofs.laws.branches_differ.Goals as goal

pub returns : goal.returns
returns c = branch_injective
