use Rattle.sipl_srv.proofs.Groups.{share-in_order}
use Rattle.sipl_srv.proofs.laws.share_in_the_order_is_the_weight.Goals as goal

pub returns : goal.returns
returns c = share-in_order
