use Rattle.dfdl_expression_tree.proofs.Places.{tokens_lie}
use Rattle.dfdl_expression_tree.proofs.laws.tokens_lie_in_their_text.Goals as goal

pub returns : goal.returns
returns c = tokens_lie
