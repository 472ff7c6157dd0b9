use Rattle.std.proofs.Common.{◌≡◌, ◌≤◌, take}
use Rattle.dfdl_cells.specs.Pieces.{utf8_characters}
use Rattle.dfdl_evaluation.proofs.counts.utf8_characters.Given as goal

-- those so far were counted
abbrev pub invariant-loop-byte : goal.invariant-loop-byte
invariant-loop-byte l = (l.count ≡ utf8_characters (take l.byte-index l.bytes)) × (l.count ≤ l.byte-index)
