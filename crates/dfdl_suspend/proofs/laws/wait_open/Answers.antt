use Rattle.dfdl_suspend.proofs.Trees.{wait_open}
use Rattle.dfdl_suspend.proofs.laws.wait_open.Goals as goal

pub returns : goal.returns
returns g c = λ t a w e. wait_open t a w e
