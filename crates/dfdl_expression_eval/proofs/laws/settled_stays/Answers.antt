use Rattle.dfdl_expression_eval.proofs.Larger.{settled_stays}
use Rattle.dfdl_expression_eval.proofs.laws.settled_stays.Goals as goal

pub returns : goal.returns
returns c = λ asks less more larger settled. settled_stays asks less more larger settled
