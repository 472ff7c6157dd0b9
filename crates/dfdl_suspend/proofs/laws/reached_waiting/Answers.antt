use Rattle.dfdl_suspend.proofs.Solving.{reached_waiting}
use Rattle.dfdl_suspend.proofs.laws.reached_waiting.Goals as goal

pub returns : goal.returns
returns g c = λ cells equation a c waits reached. reached_waiting cells equation a c waits reached
