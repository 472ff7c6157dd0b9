use Rattle.std.proofs.Common.{◌≡◌, ℕ, ◌<◌, length, get_or, false}
use Rattle.dfdl_literal_texts.proofs.places.begin.Given as goal

-- the places so far have no mark
abbrev pub invariant-loop-place : goal.invariant-loop-place
invariant-loop-place l = record {
  length : length l.places ≡ length l.fn.places;
  none : (k : ℕ) → k < l.place → get_or l.places k false ≡ false;
}
