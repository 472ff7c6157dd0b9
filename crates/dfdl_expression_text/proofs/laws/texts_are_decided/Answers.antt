use Rattle.dfdl_expression_text.proofs.Whole.{decided}
use Rattle.dfdl_expression_text.proofs.laws.texts_are_decided.Goals as goal

pub returns : goal.returns
returns c = decided
