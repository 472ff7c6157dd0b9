use Rattle.std.proofs.Common.{◌≡◌, ◌<◌, false, length, map, All, get_or, drop}
use Rattle.dfdl_rows.specs.Looking.{are_all}
use Rattle.dfdl_rows.proofs.idle.are_all.Given as goal

abbrev pub invariant-loop-part : goal.invariant-loop-part
invariant-loop-part l = record {
  same : are_all (map (λ p. get_or l.known p false) (drop l.part-index l.parts)) ≡ are_all (map (λ p. get_or l.known p false) l.parts);
  within : All (λ p. p < length l.known) (drop l.part-index l.parts);
}
