use Rattle.std.proofs.Common.{◌≡◌, ◌≤◌}
use Rattle.dfdl_paths.specs.Elements.{is_child}
use Rattle.dfdl_paths.specs.Numbers.{count_below}
use Rattle.dfdl_paths.proofs.Children.{Passed}
use Rattle.dfdl_paths.proofs.index.child_at.Given as goal

-- those so far are counted, and none of them has the place
abbrev pub invariant-loop-number : goal.invariant-loop-number
invariant-loop-number l = record {
  few : l.seen ≤ l.number;
  counted : l.seen ≡ count_below (is_child l.names l.nodes l.name l.outer) l.number;
  passed : Passed l.names l.nodes l.name l.outer l.index l.number;
}
