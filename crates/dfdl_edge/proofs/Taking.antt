-- What a read in memory copies.
use Rattle.std.proofs.Common.{◌≡◌, ℕ, ◌+◌, ◌≤◌, List, ◌++◌, length, take, drop, refl, arith}
use Rattle.std.proofs.Common.{length-take}
use Rattle.std.proofs.lemmas.List.{take-append-drop, drop-drop, take_at, nil_from_length}
use Rattle.dfdl_edge.specs.Source.{TakesFront}

-- the front of what was left, copied to the front of the buffer
pub takes_front : (bytes front rest : List ℕ) (given count : ℕ) → count ≤ length (drop given bytes)
    → (count ≡ 0 → length (drop given bytes) ≡ 0) →
    front ≡ take count (drop given bytes)
    → TakesFront (drop given bytes) count (front ++ rest) (drop (given + count) bytes)
takes_front bytes front rest given count fits end same = record {
  bytes =
      let long : length front ≡ count = rw same (grind (arith, length-take)) in
      rw (take_at front rest count long, same, ← drop-drop count given bytes, take-append-drop count (drop given bytes)) refl;
  end = λ zero. nil_from_length (drop given bytes) (end zero);
}
