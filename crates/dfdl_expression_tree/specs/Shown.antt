-- Mirror for the prover: the state that the builder's fields stand for.
use Rattle.std.specs.Prelude.{◌≡◌, Bool, true, false, Option, Some, None, List}
use Rattle.std.specs.VecDeque.{deque_items}
use Rattle.dfdl_expression_tree.specs.declared.building.Builder.{Builder}
use Rattle.dfdl_expression_tree.specs.declared.node.Cell.{Cell}
use Rattle.dfdl_expression_tree.specs.Building.{State, state, Work, work}

abbrev pub state_seen : Builder → State
state_seen b = state b.cells.items (deque_items b.pending) b.place

abbrev pub work_seen : Builder → Work
work_seen b = work b.cells.items (deque_items b.pending)

-- true with the state behind a step, and false where there is none
abbrev pub Steps : Option State → Bool → State → Type 0
Steps next true s = next ≡ Some s
Steps next false s = next ≡ None

-- true with the cells, where all is closed
abbrev pub Finishes : Option (List Cell) → Bool → List Cell → Type 0
Finishes all true cells = all ≡ Some cells
Finishes all false cells = all ≡ None
