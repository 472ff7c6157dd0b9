use Rattle.std.proofs.Common.{◌≡◌, ◌≤◌, None, length, map, get_or, drop}
use Rattle.dfdl_rows.specs.Saturated.{saturated_first_end}
use Rattle.dfdl_rows.proofs.positions.first_end.Given as goal

abbrev pub invariant-loop-at : goal.invariant-loop-at
invariant-loop-at l = record {
  within : l.at ≤ length l.parts;
  same : l.found ≡ saturated_first_end (map (λ p. get_or l.sizes p 0) (drop l.at l.parts)) (map (λ p. get_or l.known p None) (drop l.at l.parts));
}
