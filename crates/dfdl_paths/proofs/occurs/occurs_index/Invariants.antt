use Rattle.std.proofs.Common.{◌≡◌}
use Rattle.dfdl_paths.specs.Values.{index_of, index_within}
use Rattle.dfdl_paths.proofs.occurs.occurs_index.Given as goal

-- the number is that from where the walk is
abbrev pub invariant-loop-left : goal.invariant-loop-left
invariant-loop-left l = index_within l.items l.nodes l.left l.number ≡ index_of l.items l.nodes l.fn.inside

abbrev pub decreases-loop-left : goal.decreases-loop-left
decreases-loop-left l = l.left
