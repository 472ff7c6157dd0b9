use Rattle.std.proofs.Common.{◌≡◌, [], drop}
use Rattle.std.specs.VecDeque.{deque_items}
use Rattle.dfdl_expression_compile.specs.Running.{pass, run}
use Rattle.dfdl_expression_compile.proofs.compiling.last_item.Given as goal

-- what the nodes that are left make of what is kept is what all make
abbrev pub invariant-loop-node : goal.invariant-loop-node
invariant-loop-node l =
    run l.statics l.text (drop l.node-index l.tree) (pass (deque_items l.items) l.nodes.items) ≡ run l.statics l.text l.tree (pass [] l.initial.nodes.items)
