use Rattle.std.proofs.Common.{◌≡◌, drop}
use Rattle.std.specs.List.{list_any}
use Rattle.dfdl_delims.specs.Candidates.{has_more}
use Rattle.dfdl_delims.proofs.finding.some_more.Given as goal

-- the candidates that are left tell it
abbrev pub invariant-loop-candidate : goal.invariant-loop-candidate
invariant-loop-candidate l = list_any (has_more l.pieces) (drop l.candidate-index l.live) ≡ list_any (has_more l.pieces) l.live
