use Rattle.dfdl_suspend.proofs.Solving.{reached_grows}
use Rattle.dfdl_suspend.proofs.laws.reached_grows.Goals as goal

pub returns : goal.returns
returns g c = λ cells old new a grows reached. reached_grows cells old new a grows reached
