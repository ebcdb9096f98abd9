use Rattle.sipl_srv.proofs.Orders.{ordered-by_priority}
use Rattle.sipl_srv.proofs.laws.order_goes_by_priority.Goals as goal

pub returns : goal.returns
returns c = ordered-by_priority
