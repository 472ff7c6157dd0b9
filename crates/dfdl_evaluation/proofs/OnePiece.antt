-- A book of one piece and the unknown of its bits is sound.
use Rattle.std.proofs.Common.{◌≡◌, [], ◌∷◌, subst, sym}
use Rattle.std.proofs.lemmas.List.Elements.{All-cons, All-nil}
use Rattle.dfdl_cells.specs.Books.{Book}
use Rattle.dfdl_cells.specs.Plans.{Plan}
use Rattle.dfdl_cells.specs.Sound.{AreLists, CellWithin, ComplexWithin, IsSound, PieceWithin}
use Rattle.dfdl_cells.specs.declared.cell.Cell.TheVariants.{Bits}
use Rattle.dfdl_cells.specs.declared.piece.Piece.{Piece}

abbrev one_piece : Piece → Book
one_piece one = record { cells = Bits 0 ∷ []; pieces = one ∷ []; complexes = []; markups = [] }

pub book_sound : (plan : Plan) (book : Book) (one : Piece) → PieceWithin 1 one → book ≡ one_piece one → IsSound plan book
book_sound plan book one within is = subst (IsSound plan) (sym is) (record {
  cells = All-cons (CellWithin 1) (Bits 0) [] tt (All-nil (CellWithin 1));
  pieces = All-cons (PieceWithin 1) one [] within (All-nil (PieceWithin 1));
  complexes = All-nil (ComplexWithin 1);
  markups = All-nil (AreLists plan);
})
