use Rattle.std.proofs.Common.{◌≡◌, Ok, take}
use Rattle.dfdl_layers.specs.Tellers.{run}
use Rattle.dfdl_expression_text.specs.Counting.{read_start, read_step}
use Rattle.dfdl_expression_text.specs.Shown.{inside_seen}
use Rattle.dfdl_expression_text.proofs.Whole.{SoundRead}
use Rattle.dfdl_expression_text.proofs.checking.check.Given as goal

-- the reader stands where the machine does behind the bytes so far
abbrev pub invariant-loop-at : goal.invariant-loop-at
invariant-loop-at l = (run read_step read_start (take l.at l.bytes) ≡ Ok (inside_seen l.reader)) × SoundRead (inside_seen l.reader)
