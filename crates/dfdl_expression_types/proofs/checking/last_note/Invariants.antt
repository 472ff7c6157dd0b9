use Rattle.std.proofs.Common.{◌≡◌, [], drop}
use Rattle.std.specs.VecDeque.{deque_items}
use Rattle.dfdl_expression_types.specs.Running.{run}
use Rattle.dfdl_expression_types.proofs.checking.last_note.Given as goal

-- what the nodes that are left make of what is kept is what all make
abbrev pub invariant-loop-node : goal.invariant-loop-node
invariant-loop-node l = run l.statics l.text (drop l.node-index l.nodes) (deque_items l.notes) ≡ run l.statics l.text l.nodes []
