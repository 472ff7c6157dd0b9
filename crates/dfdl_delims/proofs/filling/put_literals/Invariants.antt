use Rattle.std.proofs.Common.{◌≡◌, ◌++◌, drop, length}
use Rattle.dfdl_delims.specs.Registers.{BeginsWith, pieces_of, starts_of}
use Rattle.dfdl_delims.proofs.filling.put_literals.Given as goal

-- the literals that are left are still to be put
abbrev pub invariant-loop-at : goal.invariant-loop-at
invariant-loop-at l = record {
  starts : l.starts.items ++ starts_of l.place l.encoding l.fold (length l.pieces.items) (drop l.at l.literals)
      ≡ l.fn.starts.items ++ starts_of l.place l.encoding l.fold (length l.fn.pieces.items) l.literals;
  pieces : l.pieces.items ++ pieces_of (drop l.at l.literals) ≡ l.fn.pieces.items ++ pieces_of l.literals;
  kept : BeginsWith l.fn.starts.items l.starts.items;
  kept_pieces : BeginsWith l.fn.pieces.items l.pieces.items;
}
