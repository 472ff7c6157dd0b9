use Rattle.dfdl_order.proofs.Reach.{not_recursive}
use Rattle.dfdl_order.proofs.laws.nothing_in_an_order_reaches_itself.Goals as goal

pub returns : goal.returns
returns c = λ uses order is. not_recursive uses order is
