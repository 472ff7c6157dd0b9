-- Units of UTF-16 that are counted from the first byte on.
use Rattle.std.proofs.Common.{◌≡◌, ℕ, ◌+◌, ◌<◌, Bool, List, [], ◌∷◌, length, get_or, drop, refl, ap, ◌∙◌, arith}
use Rattle.std.proofs.lemmas.List.{drop-drop, drop_more}
use Rattle.dfdl_cells.specs.Pieces.{high_units, is_high}
use Rattle.dfdl_cells.specs.Separators.{one_if}

-- the first of two bytes, or the last one
high_first : (byte : ℕ) (bytes : List ℕ) → high_units (byte ∷ bytes) ≡ one_if (is_high byte) + high_units (drop 1 bytes)
high_first byte [] = omega arith
high_first byte (other ∷ bytes) = refl

-- those at a byte and behind it
high_next : (bytes : List ℕ) (i d : ℕ) → i < length bytes
    → high_units (drop i bytes) ≡ one_if (is_high (get_or bytes i d)) + high_units (drop (i + 2) bytes)
high_next bytes i d within =
    ap high_units (drop_more bytes i d within)
    ∙ (high_first (get_or bytes i d) (drop (i + 1) bytes)
    ∙ ap (λ (bs : List ℕ). one_if (is_high (get_or bytes i d)) + high_units bs)
    (drop-drop 1 (i + 1) bytes ∙ ap (λ (n : ℕ). drop n bytes) (omega arith)))

-- one more was counted, or none
pub high_kept : (bytes : List ℕ) (i d count one total : ℕ) (high : Bool) → i < length bytes → high ≡ is_high (get_or bytes i d) → one ≡ one_if high
    → count + high_units (drop i bytes) ≡ total → count + one + high_units (drop (i + 2) bytes) ≡ total
high_kept bytes i d count one total high within is told kept =
    let next = high_next bytes i d within in
    let same : one ≡ one_if (is_high (get_or bytes i d)) = told ∙ ap one_if is in
    omega (arith, next, same, kept)
