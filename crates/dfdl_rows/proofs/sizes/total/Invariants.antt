use Rattle.std.proofs.Common.{◌≡◌, ◌<◌, ◌+◌, ◌^◌, length, map, All, get_or, drop}
use Rattle.dfdl_rows.specs.Sizes.{total}
use Rattle.dfdl_rows.specs.Saturated.{saturated}
use Rattle.dfdl_rows.proofs.sizes.total.Given as goal

abbrev pub invariant-loop-part : goal.invariant-loop-part
invariant-loop-part l = record {
  same : saturated (l.total + total (map (λ p. get_or l.known p 0) (drop l.part-index l.parts))) ≡ saturated (total (map (λ p. get_or l.known p 0) l.parts));
  small : l.total < 2 ^ 64;
  within : All (λ p. p < length l.known) (drop l.part-index l.parts);
}
