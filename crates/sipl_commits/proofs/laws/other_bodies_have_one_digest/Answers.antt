use Rattle.sipl_commits.proofs.Digests.{other_body}
use Rattle.sipl_commits.proofs.laws.other_bodies_have_one_digest.Goals as goal

pub returns : goal.returns
returns c = other_body
