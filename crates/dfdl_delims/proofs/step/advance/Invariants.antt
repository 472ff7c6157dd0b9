use Rattle.std.proofs.Common.{[], drop}
use Rattle.dfdl_delims.specs.Candidates.{Adding, step}
use Rattle.dfdl_delims.proofs.step.advance.Given as goal

-- the candidates that are left are still to be gone on from
abbrev pub invariant-loop-candidate : goal.invariant-loop-candidate
invariant-loop-candidate l = Adding [] (step l.pieces l.byte l.from) l.into.items (step l.pieces l.byte (drop l.candidate-index l.from))
