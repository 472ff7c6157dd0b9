use Rattle.dfdl_order.proofs.Over.{value_step}
use Rattle.dfdl_order.proofs.laws.value_is_the_step_from_those_of_parts.Goals as goal

pub returns : goal.returns
returns g c = λ uses order step none is. value_step uses order step none is
