-- What an event brings to a board: unknowns that are new, and others that waited for it and have their equations now.
use Rattle.std.specs.Prelude.{◌≡◌, ℕ, ◌<◌, ◌==◌, ◌⊎◌, true, Some, List, length}
use Rattle.std.specs.List.{slice_get, IsDistinct}
use Rattle.dfdl_suspend.specs.declared.known.Held.{Held}
use Rattle.dfdl_suspend.specs.declared.mark.Mark.{Mark}
use Rattle.dfdl_suspend.specs.declared.mark.Mark.TheVariants.{Waits}
use Rattle.dfdl_suspend.specs.Asks.{Asks, gives, is_in, waiting}
use Rattle.dfdl_suspend.specs.Boards.{Boarded, Fits, Agrees}
use Rattle.dfdl_suspend.specs.Rounds.{Reached}

-- the equations before an event, which a board at rest fits, and those after it: an equation changes only where its unknown
-- waited for itself, and each of those that were on the board is given, once
pub record Brings (old new : ℕ → Asks Held) (given : List ℕ) (board : Boarded) : Type 0 where
  pub fits : Fits (length board.marks) old board
  pub idle : length board.ready ≡ 0
  pub same : (cell : ℕ) → (new cell ≡ old cell) ⊎ ((old cell ≡ waiting cell) × (cell < length board.marks → is_in cell given ≡ true))
  pub apart : IsDistinct (λ (a b : ℕ). a == b) given
  pub waited : (cell : ℕ) → is_in cell given ≡ true → (cell < length board.marks) × (old cell ≡ waiting cell)

-- each of these unknowns waits for itself, and none is there twice
pub record IsSettable (given : List ℕ) (marks : List Mark) : Type 0 where
  pub apart : IsDistinct (λ (a b : ℕ). a == b) given
  pub waits : (cell : ℕ) → is_in cell given ≡ true → slice_get marks cell ≡ Some (Waits cell)

-- a board fits the equations after an event but for some unknowns that are still to be set
pub record Taking (equation : ℕ → Asks Held) (left : List ℕ) (board : Boarded) : Type 0 where
  pub reached : Reached (length board.known) equation board.known
  pub recorded : (cell : ℕ) (mark : Mark) → slice_get board.marks cell ≡ Some mark → Agrees mark (gives (equation cell) board.known) ⊎ (is_in cell left ≡ true)
  pub settable : IsSettable left board.marks
