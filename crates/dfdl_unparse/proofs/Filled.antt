-- The bits of a piece that is put, beside those that were.
use Rattle.std.proofs.Common.{◌≡◌, ℕ, ◌+◌, Option, Some, List, [], ◌∷◌, ◌++◌, length, arith, inl, inr, length-append}
use Rattle.std.proofs.lemmas.Bool.Decides.{eqb_tells}
use Rattle.dfdl_splice.specs.Splicing.{Awaited, IsAwaited, Spliced, behind_count, bit_count, filled, known_bits, with_bits}

-- with the bits of a piece as many more are put
pub filled_bits : (piece : ℕ) (bits : List ℕ) (known : Option (List ℕ)) (awaited : List Awaited) → IsAwaited piece (length bits) awaited
    → length (known_bits (filled piece bits known awaited).known) + behind_count (filled piece bits known awaited).awaited
    ≡ length (known_bits known) + behind_count awaited + length bits
filled_bits piece bits known [] is = absurd is
filled_bits piece bits known (first ∷ rest) is = elim (eqb_tells first.piece piece) [
  | inl same ↦ rw same.0 (omega (arith, length-append (known_bits known) (bits ++ known_bits first.behind), length-append bits (known_bits first.behind)))
  | inr apart ↦ rw apart.0 (omega (arith, filled_bits piece bits first.behind rest (later apart.1 is)))
]
  where
    later : (first.piece ≡ piece → ⊥) → IsAwaited piece (length bits) (first ∷ rest) → IsAwaited piece (length bits) rest
    later other (inl here) = absurd (other here.0)
    later other (inr there) = there

pub put_bits : (splice : Spliced) (piece : ℕ) (bits : List ℕ) → IsAwaited piece (length bits) splice.awaited
    → bit_count (with_bits splice piece bits) ≡ bit_count splice + length bits
put_bits splice piece bits is = filled_bits piece bits (Some splice.front) splice.awaited is
