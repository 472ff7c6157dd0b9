use Rattle.std.proofs.Common.{◌≡◌, ◌≤◌}
use Rattle.dfdl_paths.specs.Elements.{is_child}
use Rattle.dfdl_paths.specs.Numbers.{count_below}
use Rattle.dfdl_paths.proofs.index.place_among.Given as goal

-- those so far are counted
abbrev pub invariant-loop-other : goal.invariant-loop-other
invariant-loop-other l = record {
  few : l.place ≤ l.other;
  counted : l.place ≡ count_below (is_child l.names l.nodes l.name l.outer) l.other;
}
