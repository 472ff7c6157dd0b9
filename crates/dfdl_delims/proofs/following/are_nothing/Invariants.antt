use Rattle.std.proofs.Common.{◌≡◌, ◌-◌}
use Rattle.std.specs.List.{list_all}
use Rattle.dfdl_delims.specs.Candidates.{is_nothing, pieces_from}
use Rattle.dfdl_delims.proofs.following.are_nothing.Given as goal

-- the pieces that are left tell it
abbrev pub invariant-pieces : goal.invariant-pieces
invariant-pieces l = list_all is_nothing (pieces_from l.pieces l.at l.end) ≡ list_all is_nothing (pieces_from l.pieces l.from l.end)

abbrev pub decreases-pieces : goal.decreases-pieces
decreases-pieces l = l.end - l.at
