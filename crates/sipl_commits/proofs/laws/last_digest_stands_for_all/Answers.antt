use Rattle.sipl_commits.proofs.Digests.{alike}
use Rattle.sipl_commits.proofs.laws.last_digest_stands_for_all.Goals as goal

pub returns : goal.returns
returns c = alike
