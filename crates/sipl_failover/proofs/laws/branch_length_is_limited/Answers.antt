use Rattle.sipl_failover.proofs.BranchLemmas.{length-branch_of}
use Rattle.sipl_failover.proofs.laws.branch_length_is_limited.Goals as goal

pub returns : goal.returns
returns c = length-branch_of
