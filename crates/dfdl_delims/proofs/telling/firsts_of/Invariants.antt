use Rattle.std.proofs.Common.{ℕ, Bool, List}
use Rattle.dfdl_delims.specs.Verdicts.{StandAt, TellsBelow}
use Rattle.dfdl_delims.proofs.telling.firsts_of.Given as goal

-- the sets are so as far as the bytes tell that were tried
abbrev pub invariant-loop-byte : goal.invariant-loop-byte
invariant-loop-byte l = (place : ℕ) (is_text : List ℕ → Bool) → StandAt l.pieces l.begins place is_text → TellsBelow l.byte l.ones l.more is_text
