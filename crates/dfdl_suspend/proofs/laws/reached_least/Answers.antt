use Rattle.dfdl_suspend.proofs.Solving.{reached_least}
use Rattle.dfdl_suspend.proofs.laws.reached_least.Goals as goal

pub returns : goal.returns
returns g c = λ cells equation a reached. reached_least cells equation a reached
