use Rattle.std.proofs.Common.{◌≡◌, [], drop}
use Rattle.std.specs.VecDeque.{deque_items}
use Rattle.dfdl_expression_tree.specs.Numbering.{numbered}
use Rattle.dfdl_expression_tree.proofs.numbering.nodes_of.Given as goal

-- what the cells that are left make of the nodes so far is what all make
abbrev pub invariant-loop-at : goal.invariant-loop-at
invariant-loop-at l = numbered (drop l.at l.cells) l.at (deque_items l.numbers) l.nodes.items ≡ numbered l.cells 0 [] []
