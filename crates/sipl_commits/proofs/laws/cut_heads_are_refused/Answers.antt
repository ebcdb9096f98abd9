use Rattle.sipl_commits.proofs.Cutting.{cut_head}
use Rattle.sipl_commits.proofs.laws.cut_heads_are_refused.Goals as goal

pub returns : goal.returns
returns c = cut_head
