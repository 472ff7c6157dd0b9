use Rattle.dfdl_expression_eval.proofs.Larger.{wait_stays}
use Rattle.dfdl_expression_eval.proofs.laws.wait_stays.Goals as goal

pub returns : goal.returns
returns c = λ asks less more unknown larger waits is. wait_stays asks less more unknown larger waits is
