-- What was laid names only what is there. 'DFDL Processing Introduction' (unparsing).
use Rattle.std.specs.Prelude.{◌≡◌, ◌⊎◌, ℕ, ◌<◌, ◌≤◌, List, [], ◌∷◌, length, slice_get}
use Rattle.dfdl_cells.specs.Books.{Book}
use Rattle.dfdl_cells.specs.Growing.{inside_of}
use Rattle.dfdl_cells.specs.Growth.{Grows, HaveSlots, IsBound, IsCell, IsCellIf, IsSettled}
use Rattle.dfdl_cells.specs.declared.cell.Cell.{Cell}
use Rattle.dfdl_cells.specs.declared.cell.Cell.TheVariants as cell
use Rattle.dfdl_laying.specs.Laying.{Laid}
use Rattle.dfdl_laying.specs.declared.spot.Spot.{Spot}

-- what an open content names; that of the document has no length
pub record IsSpot (book : Book) (spot : Spot) : Type 0 where
  pub complex : spot.complex < length book.complexes
  pub since : spot.since ≤ length (inside_of (slice_get book.complexes spot.complex))
  pub after : IsCellIf book.cells spot.after
  pub length_is : (spot.length ≡ 0) ⊎ IsCell book.cells spot.length
  pub bound : IsBound book spot.bound
  pub markup : spot.markup < length book.markups

abbrev pub AreSpots : Book → List Spot → Type 0
AreSpots book [] = Unit {0}
AreSpots book (spot ∷ spots) = IsSpot book spot × AreSpots book spots

-- the book is settled, each unknown has an owner, and what is open is there
pub record IsGood (laid : Laid) : Type 0 where
  pub settled : IsSettled laid.book
  pub owned : length laid.owners ≡ length laid.book.cells
  pub here : IsSpot laid.book laid.here
  pub around : AreSpots laid.book laid.around

-- an act of laying keeps that, and the book grows; where all slots are whole before it, they are so behind it
pub record Keeps (old new : Laid) : Type 0 where
  pub good : IsGood new
  pub grows : Grows old.book new.book
  pub slots : HaveSlots old.book → HaveSlots new.book

-- what an element without parts can be
abbrev pub IsValue : Cell → Type 0
IsValue cell.Waiting = ⊥
IsValue (cell.Faulty cause) = Unit {0}
IsValue (cell.Given value) = Unit {0}
IsValue cell.Nil = Unit {0}
IsValue (cell.Items items) = ⊥
IsValue (cell.ValueLength component first) = ⊥
IsValue (cell.ContentLength component first markup) = ⊥
IsValue (cell.Reached place) = ⊥
IsValue (cell.Boxed size inside) = ⊥
IsValue (cell.Bits piece) = ⊥
