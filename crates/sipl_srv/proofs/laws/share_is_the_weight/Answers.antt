use Rattle.sipl_srv.proofs.Shares.{share-is}
use Rattle.sipl_srv.proofs.laws.share_is_the_weight.Goals as goal

pub returns : goal.returns
returns c = share-is
