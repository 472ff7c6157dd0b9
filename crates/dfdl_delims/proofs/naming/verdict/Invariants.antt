use Rattle.std.proofs.Common.{◌≡◌, drop, None}
use Rattle.dfdl_delims.specs.Verdicts.{named_firsts, verdict_of}
use Rattle.dfdl_delims.proofs.naming.verdict.Given as goal

-- the whole verdict is that of the lists that are left
abbrev pub invariant-loop-place : goal.invariant-loop-place
invariant-loop-place l =
    verdict_of l.byte l.place l.best (named_firsts l.firsts (drop l.place l.numbers)) ≡ verdict_of l.byte 0 None (named_firsts l.firsts l.numbers)
