use Rattle.std.proofs.Common.{◌≡◌, drop}
use Rattle.std.specs.List.{list_any}
use Rattle.dfdl_checks.specs.Nils.{lacks_piece}
use Rattle.dfdl_checks.proofs.nils.lacks_pieces.Given as goal

-- what is left answers the same as all
abbrev pub invariant-loop-piece : goal.invariant-loop-piece
invariant-loop-piece l = list_any (lacks_piece l.encoding) (drop l.piece-index l.pieces) ≡ list_any (lacks_piece l.encoding) l.pieces
