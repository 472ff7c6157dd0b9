use Rattle.dfdl_expression_eval.proofs.Larger.{wait_is_asked}
use Rattle.dfdl_expression_eval.proofs.laws.wait_is_asked.Goals as goal

pub returns : goal.returns
returns c = λ asks answers unknown is. wait_is_asked asks answers unknown is
