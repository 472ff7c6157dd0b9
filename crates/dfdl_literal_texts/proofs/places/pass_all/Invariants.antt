use Rattle.std.proofs.Common.{◌≡◌, ℕ, List, Bool, length}
use Rattle.dfdl_literal_texts.specs.Places.{rest_at, some_marked, split, taken_at}
use Rattle.dfdl_literal_texts.proofs.places.pass_all.Given as goal

-- the marks from the place on are moved
abbrev pub invariant-loop-at : goal.invariant-loop-at
invariant-loop-at l = record {
  length : length l.places ≡ length l.fn.places;
  passed : (is_rest : List ℕ → Bool)
      → some_marked l.places (split l.at (taken_at l.encoding l.fold l.piece is_rest l.bytes) (rest_at is_rest l.bytes))
      ≡ some_marked l.fn.places (taken_at l.encoding l.fold l.piece is_rest l.bytes);
}
