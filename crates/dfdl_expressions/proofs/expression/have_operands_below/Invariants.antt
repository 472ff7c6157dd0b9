use Rattle.dfdl_expressions.specs.Nodes.{AreBelowFirst}
use Rattle.dfdl_expressions.proofs.expression.have_operands_below.Given as goal

-- the operands of the nodes so far stand before them
abbrev pub invariant-loop-number : goal.invariant-loop-number
invariant-loop-number l = AreBelowFirst l.number l.nodes
