use Rattle.std.proofs.Common.{◌≡◌, length}
use Rattle.std.specs.VecDeque.{deque_items}
use Rattle.dfdl_expression_tree.specs.Building.{popped}
use Rattle.dfdl_expression_tree.proofs.building.Builder.pop.Given as goal

-- what is left to be ended comes to the same
abbrev pub invariant-loop-pending : goal.invariant-loop-pending
invariant-loop-pending l =
    popped l.strength l.self.cells.items (deque_items l.self.pending)
    ≡ popped l.strength l.initial.self.cells.items (deque_items l.initial.self.pending)

abbrev pub decreases-loop-pending : goal.decreases-loop-pending
decreases-loop-pending l = length (deque_items l.self.pending)
