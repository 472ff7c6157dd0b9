use Rattle.dfdl_expression_tree.proofs.Unique.{one_list, one_tree}
use Rattle.dfdl_expression_tree.proofs.laws.a_text_has_one_tree.Goals as goal

pub returns-clause-tokens : goal.returns-clause-tokens
returns-clause-tokens c = one_list

pub returns-clause-tree : goal.returns-clause-tree
returns-clause-tree c = one_tree
