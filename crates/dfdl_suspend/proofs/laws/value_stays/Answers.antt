use Rattle.dfdl_suspend.proofs.Trees.{value_stays}
use Rattle.dfdl_suspend.proofs.laws.value_stays.Goals as goal

pub returns : goal.returns
returns g c = λ t a b v below e. value_stays t a b v below e
