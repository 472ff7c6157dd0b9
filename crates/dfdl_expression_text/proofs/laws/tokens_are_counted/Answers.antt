use Rattle.dfdl_expression_text.proofs.Whole.{counted_once}
use Rattle.dfdl_expression_text.proofs.laws.tokens_are_counted.Goals as goal

pub returns : goal.returns
returns c = counted_once
