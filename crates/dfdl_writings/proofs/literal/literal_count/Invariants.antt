use Rattle.std.proofs.Common.{◌≡◌, ◌+◌, drop}
use Rattle.dfdl_writings.specs.Literals.{literal_count}
use Rattle.dfdl_writings.proofs.literal.literal_count.Given as goal

abbrev pub invariant-loop-piece : goal.invariant-loop-piece
invariant-loop-piece l = l.count + literal_count l.new_line (drop l.piece-index l.pieces) ≡ literal_count l.new_line l.pieces
