use Rattle.dfdl_suspend.proofs.Trees.{fault_stays}
use Rattle.dfdl_suspend.proofs.laws.fault_stays.Goals as goal

pub returns : goal.returns
returns g c = λ t a b u below e. fault_stays t a b u below e
