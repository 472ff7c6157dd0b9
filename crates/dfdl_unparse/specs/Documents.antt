-- The pieces of bits that a document is written as, and what an event changes of them and of the equations of their unknowns.
-- 'DFDL Processing Introduction' (unparsing).
use Rattle.std.specs.Prelude.{◌≡◌, ◌≢◌, ℕ, ◌<◌, ◌≤◌, ◌==◌, ◌⊎◌, true, Option, Some, None, List, map, flat_map}
use Rattle.std.specs.List.{IsDistinct, range_with_len}
use Rattle.dfdl_forms.specs.declared.order.BitOrder.{BitOrder}
use Rattle.dfdl_suspend.specs.declared.known.Held.{Held}
use Rattle.dfdl_suspend.specs.Asks.{Asks, Below, at, is_in, waiting}
use Rattle.dfdl_suspend.specs.Rounds.{Reached}

-- The pieces in the order of the data: how many there are, the unknown of each one's bits, what its bits are over what is known, each 0 or 1, and
-- the order of bits in bytes.
pub record Pieces : Type 0 where
  pub count : ℕ
  pub cell : ℕ → ℕ
  pub bits : List (Option Held) → ℕ → List ℕ
  pub order : BitOrder

-- bits, where their unknown has a value
abbrev pub told_by : Option Held → List ℕ → Option (List ℕ)
told_by None bits = None
told_by (Some held) bits = Some bits

-- the bits of a piece, where they are known
abbrev pub told_at : Pieces → List (Option Held) → ℕ → Option (List ℕ)
told_at pieces known piece = told_by (at known (pieces.cell piece)) (pieces.bits known piece)

-- those of each piece
abbrev pub told : Pieces → List (Option Held) → List (Option (List ℕ))
told pieces known = map (told_at pieces known) (range_with_len 0 pieces.count)

-- the bits of all pieces
abbrev pub all_bits : Pieces → List (Option Held) → List ℕ
all_bits pieces known = flat_map (pieces.bits known) (range_with_len 0 pieces.count)

-- each piece has an unknown of its own
pub record HasCells (unknowns : ℕ) (pieces : Pieces) : Type 0 where
  pub inside : (piece : ℕ) → piece < pieces.count → pieces.cell piece < unknowns
  pub few : pieces.count ≤ unknowns
  pub apart : (a b : ℕ) → a < pieces.count → b < pieces.count → pieces.cell a ≡ pieces.cell b → a ≡ b

-- the bits of a piece that are known stay the same while more is known
pub record IsSteady (equation : ℕ → Asks Held) (pieces : Pieces) : Type 0 where
  pub stays : (room : ℕ) (a b : List (Option Held)) (piece : ℕ) → Reached room equation a → Below a b
      → piece < pieces.count → at a (pieces.cell piece) ≢ None → pieces.bits b piece ≡ pieces.bits a piece

-- What an event does to equations of so many unknowns: only those change whose unknown waited for itself, and each of these that was there is given, once.
pub record Comes (unknowns : ℕ) (old new : ℕ → Asks Held) (given : List ℕ) : Type 0 where
  pub same : (cell : ℕ) → (new cell ≡ old cell) ⊎ ((old cell ≡ waiting cell) × (cell < unknowns → is_in cell given ≡ true))
  pub apart : IsDistinct (λ (a b : ℕ). a == b) given
  pub waited : (cell : ℕ) → is_in cell given ≡ true → (cell < unknowns) × (old cell ≡ waiting cell)

-- What an event does to pieces: it lays more behind the others, whose unknowns are new, and changes none.
pub record Lays (unknowns : ℕ) (equation : ℕ → Asks Held) (old new : Pieces) : Type 0 where
  pub more : old.count ≤ new.count
  pub order : new.order ≡ old.order
  pub cells : (piece : ℕ) → piece < old.count → new.cell piece ≡ old.cell piece
  pub fresh : (piece : ℕ) → old.count ≤ piece → piece < new.count → unknowns ≤ new.cell piece
  pub bits : (room : ℕ) (known : List (Option Held)) (piece : ℕ) → Reached room equation known
      → piece < old.count → at known (old.cell piece) ≢ None → new.bits known piece ≡ old.bits known piece

-- the piece whose bits an unknown is, if there is one
abbrev pub IsPieceOf : Pieces → ℕ → Option ℕ → Type 0
IsPieceOf pieces cell None = (piece : ℕ) → piece < pieces.count → pieces.cell piece ≢ cell
IsPieceOf pieces cell (Some piece) = (piece < pieces.count) × (pieces.cell piece ≡ cell)
