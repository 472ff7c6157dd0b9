use Rattle.std.proofs.Common.{◌≡◌, ◌<◌, length, map, All, get_or, drop}
use Rattle.dfdl_planning.specs.Planned.{slots_end, unknown_outline}
use Rattle.dfdl_planning.proofs.parts.slots_end.Given as goal

abbrev pub invariant-loop-part : goal.invariant-loop-part
invariant-loop-part l = record {
  place : l.at ≡ l.part-index;
  same : slots_end l.at l.end (map (λ p. get_or l.known p unknown_outline) (drop l.part-index l.parts))
      ≡ slots_end 0 0 (map (λ p. get_or l.known p unknown_outline) l.parts);
  within : All (λ p. p < length l.known) (drop l.part-index l.parts);
}
