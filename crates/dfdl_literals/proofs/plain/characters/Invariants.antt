use Rattle.std.proofs.Common.{◌≡◌, map, take}
use Rattle.dfdl_forms.specs.declared.literals.Piece.TheVariants.{Char}
use Rattle.dfdl_literals.proofs.plain.characters.Given as goal

abbrev pub invariant-loop-piece : goal.invariant-loop-piece
invariant-loop-piece l = map Char l.text.items ≡ take l.piece-index l.pieces
