use Rattle.std.proofs.Common.{◌-◌}
use Rattle.dfdl_delims.specs.Candidates.{Adding, begun_from, pieces_from}
use Rattle.dfdl_delims.proofs.step.add_from.Given as goal

-- the pieces that are left are still to be added
abbrev pub invariant-pieces : goal.invariant-pieces
invariant-pieces l =
    Adding l.fn.into.items (begun_from (pieces_from l.pieces l.fn.candidate.at l.fn.candidate.end) l.byte l.fn.candidate) l.into.items
    (begun_from (pieces_from l.pieces l.place.at l.place.end) l.byte l.place)

abbrev pub decreases-pieces : goal.decreases-pieces
decreases-pieces l = l.place.end - l.place.at
