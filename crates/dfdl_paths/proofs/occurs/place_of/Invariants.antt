use Rattle.std.proofs.Common.{◌≡◌, ◌≤◌}
use Rattle.dfdl_paths.specs.Elements.{stand_together}
use Rattle.dfdl_paths.specs.Numbers.{count_below}
use Rattle.dfdl_paths.proofs.occurs.place_of.Given as goal

-- those so far are counted
abbrev pub invariant-loop-other : goal.invariant-loop-other
invariant-loop-other l = record {
  few : l.place ≤ l.other;
  counted : l.place ≡ count_below (stand_together l.nodes l.number) l.other;
}
