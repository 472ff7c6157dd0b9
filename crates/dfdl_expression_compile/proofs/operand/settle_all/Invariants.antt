use Rattle.std.proofs.Common.{◌≡◌, length}
use Rattle.dfdl_expression_compile.specs.Settling.{settled_behind, all_settled}
use Rattle.dfdl_expression_compile.proofs.operand.settle_all.Given as goal

-- the operands that are left, behind those that have nodes, give what all give
abbrev pub invariant-left : goal.invariant-left
invariant-left l = settled_behind l.numbers.items l.left l.nodes.items ≡ all_settled l.initial.left l.initial.nodes.items

abbrev pub decreases-left : goal.decreases-left
decreases-left l = length l.left
