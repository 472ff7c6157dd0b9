use Rattle.std.proofs.Common.{◌≡◌, ◌<◌, ◌++◌, length, map, All, get_or, drop}
use Rattle.dfdl_planning.specs.Planned.{parts_from, unknown_outline}
use Rattle.dfdl_planning.proofs.parts.parts_of.Given as goal

abbrev pub invariant-loop-part : goal.invariant-loop-part
invariant-loop-part l = record {
  place : l.at ≡ l.part-index;
  same : l.made.items ++ parts_from (λ p. get_or l.known p unknown_outline) l.separated l.end l.at l.first (drop l.part-index l.parts)
      ≡ parts_from (λ p. get_or l.known p unknown_outline) l.separated l.end 0 0 l.parts;
  within : All (λ p. p < length l.known) (drop l.part-index l.parts);
}
