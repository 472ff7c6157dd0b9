use Rattle.std.proofs.Common.{◌≡◌, ◌≤◌, length}
use Rattle.dfdl_paths.specs.declared.place.Place.TheVariants.{At}
use Rattle.dfdl_paths.specs.Spans.{reached_by}
use Rattle.dfdl_paths.specs.Numbers.{those_below}
use Rattle.dfdl_paths.proofs.found.count_in.Given as goal

-- those so far
abbrev pub invariant-loop-number : goal.invariant-loop-number
invariant-loop-number l = record {
  few : l.count ≤ l.number;
  counted : l.count ≡ length (those_below (λ n. reached_by l.course (At n)) l.number);
}
