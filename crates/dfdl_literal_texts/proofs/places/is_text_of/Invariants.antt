use Rattle.std.proofs.Common.{◌≡◌, length, drop}
use Rattle.dfdl_literal_texts.specs.Texts.{is_text}
use Rattle.dfdl_literal_texts.specs.Places.{goes}
use Rattle.dfdl_literal_texts.proofs.places.is_text_of.Given as goal

-- at some marked place stands a text of the pieces that are left
abbrev pub invariant-loop-piece : goal.invariant-loop-piece
invariant-loop-piece l = record {
  length : length l.places ≡ length l.fn.places;
  stands : goes l.places (is_text l.encoding l.fold (drop l.piece-index l.pieces)) l.bytes ≡ is_text l.encoding l.fold l.pieces l.bytes;
}
