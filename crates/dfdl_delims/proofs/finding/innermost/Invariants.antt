use Rattle.std.proofs.Common.{[], take}
use Rattle.dfdl_delims.specs.Candidates.{complete}
use Rattle.dfdl_delims.specs.Hits.{IsLast}
use Rattle.dfdl_delims.proofs.finding.innermost.Given as goal

-- the innermost list of the candidates so far
abbrev pub invariant-loop-candidate : goal.invariant-loop-candidate
invariant-loop-candidate l = IsLast (λ n. complete l.pieces n (take l.candidate-index l.live) []) l.best
