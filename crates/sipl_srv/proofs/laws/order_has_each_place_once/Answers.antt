use Rattle.sipl_srv.proofs.Orders.{ordered-IsPermutation}
use Rattle.sipl_srv.proofs.laws.order_has_each_place_once.Goals as goal

pub returns : goal.returns
returns c = ordered-IsPermutation
