use Rattle.std.proofs.Common.{◌≡◌, ◌<◌, length, map, All, get_or, drop, max}
use Rattle.dfdl_rows.specs.Depths.{greatest}
use Rattle.dfdl_rows.proofs.depths.greatest.Given as goal

abbrev pub invariant-loop-part : goal.invariant-loop-part
invariant-loop-part l = record {
  same : max l.greatest (greatest (map (λ p. get_or l.known p 0) (drop l.part-index l.parts))) ≡ greatest (map (λ p. get_or l.known p 0) l.parts);
  within : All (λ p. p < length l.known) (drop l.part-index l.parts);
}
