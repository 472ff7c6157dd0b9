-- Pieces of bits in the order of the data, of which some are put and some are awaited. Profile: what is written of the data
-- is what stands before the first piece that is awaited.
use Rattle.std.specs.Prelude.{◌≡◌, ◌⊎◌, ℕ, ◌+◌, ◌*◌, ◌/◌, Option, None, Some, List, [], ◌∷◌, ◌++◌, length, drop, ◌==◌, if◌then◌else◌}
use Rattle.dfdl_forms.specs.declared.order.BitOrder.{BitOrder}

-- A piece whose bits are awaited: its number, how many bits it has where that is fixed, and the bits of the pieces behind it
-- that are put, up to the next one that is awaited. None: no piece stands there.
pub record Awaited : Type 0 where
  pub piece : ℕ
  pub bits : Option ℕ
  pub behind : Option (List ℕ)

-- The pieces that were added: the bits of those before the first one that is awaited, without what was dropped, and the
-- awaited ones in the order of the data.
pub record Spliced : Type 0 where
  -- how many pieces and how many bytes there may be
  pub most_pieces : ℕ
  pub most_bytes : ℕ
  pub order : BitOrder
  -- how many pieces were added, which is the number of the next one
  pub added : ℕ
  pub front : List ℕ
  pub awaited : List Awaited

-- the bits, none where no piece stands
abbrev pub known_bits : Option (List ℕ) → List ℕ
known_bits None = []
known_bits (Some bits) = bits

-- 1 where pieces stand, which count as one
abbrev pub one_run : Option (List ℕ) → ℕ
one_run None = 0
one_run (Some bits) = 1

-- each piece that is awaited, and each run of pieces behind one that are put
abbrev pub awaited_count : List Awaited → ℕ
awaited_count [] = 0
awaited_count (piece ∷ rest) = 1 + one_run piece.behind + awaited_count rest

-- the bits of the pieces behind awaited ones that are put
abbrev pub behind_count : List Awaited → ℕ
behind_count [] = 0
behind_count (piece ∷ rest) = length (known_bits piece.behind) + behind_count rest

-- 1 where there are bits
abbrev pub one_if_any : List ℕ → ℕ
one_if_any [] = 0
one_if_any (bit ∷ bits) = 1

-- how many pieces count: what is left of the front, where a bit of it is, is one
abbrev pub piece_count : Spliced → ℕ
piece_count splice = one_if_any splice.front + awaited_count splice.awaited

-- how many bits are put and not dropped
abbrev pub bit_count : Spliced → ℕ
bit_count splice = length splice.front + behind_count splice.awaited

-- what stands behind a place: the bits of pieces that are put, and then awaited pieces
pub record Stretch : Type 0 where
  pub known : Option (List ℕ)
  pub awaited : List Awaited

-- the bits of a piece between what is known before it and behind it
abbrev pub joined : Option (List ℕ) → List ℕ → Option (List ℕ) → Option (List ℕ)
joined before bits behind = Some (known_bits before ++ (bits ++ known_bits behind))

-- with the bits of the piece of this number, which join what is known before it and behind it
abbrev pub filled : ℕ → List ℕ → Option (List ℕ) → List Awaited → Stretch
filled number bits known [] = record { known = known; awaited = [] }
filled number bits known (piece ∷ rest) =
    if piece.piece == number then record { known = joined known bits piece.behind; awaited = rest }
    else record {
      known = known;
      awaited = record piece { behind = (filled number bits piece.behind rest).known } ∷ (filled number bits piece.behind rest).awaited;
    }

-- with one more piece behind the others
abbrev pub with_piece : Spliced → Option ℕ → Spliced
with_piece splice bits = record splice {
  added = splice.added + 1;
  awaited = splice.awaited ++ record { piece = splice.added; bits = bits; behind = None } ∷ [];
}

-- with the bits of the piece of this number
abbrev pub with_bits : Spliced → ℕ → List ℕ → Spliced
with_bits splice number bits = record splice {
  front = known_bits (filled number bits (Some splice.front) splice.awaited).known;
  awaited = (filled number bits (Some splice.front) splice.awaited).awaited;
}

-- so many bits fit a piece: any, or the number that is fixed
abbrev pub Fits : Option ℕ → ℕ → Type 0
Fits None count = Unit {0}
Fits (Some fixed) count = count ≡ fixed

-- the piece of this number is awaited, and so many bits fit it
abbrev pub IsAwaited : ℕ → ℕ → List Awaited → Type 0
IsAwaited number count [] = ⊥
IsAwaited number count (piece ∷ rest) = ((piece.piece ≡ number) × Fits piece.bits count) ⊎ IsAwaited number count rest

-- how many bits of the front lie in whole bytes
abbrev pub whole_bits : Spliced → ℕ
whole_bits splice = 8 * (length splice.front / 8)

-- without the whole bytes of the front
abbrev pub without_front : Spliced → Spliced
without_front splice = record splice { front = drop (whole_bits splice) splice.front }
