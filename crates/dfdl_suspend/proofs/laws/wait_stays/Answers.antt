use Rattle.dfdl_suspend.proofs.Trees.{wait_stays}
use Rattle.dfdl_suspend.proofs.laws.wait_stays.Goals as goal

pub returns : goal.returns
returns g c = λ t a b w below e free. wait_stays t a b w below e free
