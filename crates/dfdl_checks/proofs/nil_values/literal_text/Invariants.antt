use Rattle.std.proofs.Common.{◌≡◌, [], drop, string_bytes}
use Rattle.dfdl_checks.specs.NilValues.{with_pieces}
use Rattle.dfdl_checks.proofs.nil_values.literal_text.Given as goal

-- the pieces that are left give the same text as all
abbrev pub invariant-loop-piece : goal.invariant-loop-piece
invariant-loop-piece l = with_pieces (string_bytes l.text) (drop l.piece-index l.pieces) ≡ with_pieces [] l.pieces
