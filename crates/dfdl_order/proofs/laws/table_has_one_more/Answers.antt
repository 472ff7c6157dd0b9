use Rattle.dfdl_order.proofs.Over.{has_more}
use Rattle.dfdl_order.proofs.laws.table_has_one_more.Goals as goal

pub returns : goal.returns
returns g c = λ uses order step none is. has_more uses order step none is
