use Rattle.std.proofs.Common.{◌≡◌, ℕ, List, Bool, length}
use Rattle.dfdl_literal_texts.specs.Texts.{after_any, spaces}
use Rattle.dfdl_literal_texts.specs.Places.{goes, rest_at, some_marked, split}
use Rattle.dfdl_literal_texts.proofs.places.spread_all.Given as goal

-- the marks before the place are spread
abbrev pub invariant-loop-at : goal.invariant-loop-at
invariant-loop-at l = record {
  length : length l.places ≡ length l.fn.places;
  spread : (is_rest : List ℕ → Bool)
      → some_marked l.places (split l.at (rest_at is_rest l.bytes) (rest_at (after_any l.encoding spaces is_rest) l.bytes))
      ≡ goes l.fn.places (after_any l.encoding spaces is_rest) l.bytes;
}
