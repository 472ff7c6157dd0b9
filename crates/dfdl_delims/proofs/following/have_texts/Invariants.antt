use Rattle.std.proofs.Common.{◌≡◌, drop}
use Rattle.dfdl_delims.specs.Candidates.{have_texts}
use Rattle.dfdl_delims.proofs.following.have_texts.Given as goal

-- the pieces that are left tell it
abbrev pub invariant-loop-piece : goal.invariant-loop-piece
invariant-loop-piece l = have_texts l.encoding l.fold (drop l.piece-index l.pieces) ≡ have_texts l.encoding l.fold l.pieces
