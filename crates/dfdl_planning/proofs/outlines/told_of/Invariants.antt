use Rattle.std.proofs.Common.{◌≡◌, ◌<◌, length, map, All, get_or, drop}
use Rattle.dfdl_planning.specs.Planned.{nothing_told, told_from, unknown_outline}
use Rattle.dfdl_planning.proofs.outlines.told_of.Given as goal

abbrev pub invariant-loop-part : goal.invariant-loop-part
invariant-loop-part l = record {
  same : told_from l.told (map (λ p. get_or l.known p unknown_outline) (drop l.part-index l.parts))
      ≡ told_from nothing_told (map (λ p. get_or l.known p unknown_outline) l.parts);
  within : All (λ p. p < length l.known) (drop l.part-index l.parts);
}
