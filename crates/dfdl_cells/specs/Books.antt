-- The unknowns and pieces that were laid, and the elements with parts, each by its number.
use Rattle.std.specs.Prelude.{ℕ, List, [], slice_get, Option, None, Some}
use Rattle.dfdl_cells.specs.declared.cell.Cell.{Cell}
use Rattle.dfdl_cells.specs.declared.complex.Complex.{Complex}
use Rattle.dfdl_cells.specs.declared.piece.Piece.{Piece}

-- what was laid; a content names the lists of markup that are open there by the number of one of these lists
pub record Book : Type 0 where
  pub cells : List Cell
  pub pieces : List Piece
  pub complexes : List Complex
  pub markups : List (List ℕ)

-- the numbers of a list; a list that isn't there has none
abbrev pub numbers_or : Option (List ℕ) → List ℕ
numbers_or None = []
numbers_or (Some numbers) = numbers

-- the numbers of the lists of markup that are open at a content
abbrev pub markup_at : Book → ℕ → List ℕ
markup_at book markup = numbers_or (slice_get book.markups markup)
