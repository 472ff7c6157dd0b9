use Rattle.std.proofs.Common.{◌≡◌, length}
use Rattle.dfdl_escapes.specs.Trims.{behind_pads}
use Rattle.dfdl_escapes.proofs.trimming.behind_pads.Given as goal

abbrev pub invariant-loop-rest : goal.invariant-loop-rest
invariant-loop-rest l = behind_pads l.trim l.rest ≡ behind_pads l.trim l.fn.characters

abbrev pub decreases-loop-rest : goal.decreases-loop-rest
decreases-loop-rest l = length l.rest
