use Rattle.dfdl_suspend.proofs.Solving.{solution_is}
use Rattle.dfdl_suspend.proofs.laws.solution_is.Goals as goal

pub returns : goal.returns
returns g c = λ cells equation a reached closed. solution_is cells equation a reached closed
