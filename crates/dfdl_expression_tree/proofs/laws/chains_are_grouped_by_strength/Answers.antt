use Rattle.dfdl_expression_tree.proofs.Groups.{chained_groups}
use Rattle.dfdl_expression_tree.proofs.Unique.{groups_only}
use Rattle.dfdl_expression_tree.proofs.laws.chains_are_grouped_by_strength.Goals as goal

pub returns-clause-grouped : goal.returns-clause-grouped
returns-clause-grouped c = chained_groups

pub returns-clause-only : goal.returns-clause-only
returns-clause-only c = groups_only
