use Rattle.std.proofs.Common.{◌≡◌, Some, drop}
use Rattle.dfdl_chars.specs.Encodings.{joined}
use Rattle.dfdl_writings.specs.Literals.{literal_bytes}
use Rattle.dfdl_writings.proofs.literal.literal_bytes.Given as goal

-- the bytes of the pieces before, and those that are left
abbrev pub invariant-loop-piece : goal.invariant-loop-piece
invariant-loop-piece l =
    joined (Some l.all.items) (literal_bytes l.encoding l.new_line (drop l.piece-index l.pieces)) ≡ literal_bytes l.encoding l.new_line l.pieces
