use Rattle.std.proofs.Common.{◌≡◌, ◌+◌, ◌≤◌, drop}
use Rattle.dfdl_compile.specs.Statements.{opening_count}
use Rattle.dfdl_compile.proofs.stating.opening_count.Given as goal

-- those so far and those among the rest are all, and no more than those that were looked at
abbrev pub invariant-loop-setter : goal.invariant-loop-setter
invariant-loop-setter l = record {
  all : l.count + opening_count (drop l.setter-index l.setters) ≡ opening_count l.setters;
  few : l.count ≤ l.setter-index;
}
