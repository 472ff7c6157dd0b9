use Rattle.std.proofs.Common.{◌≡◌, drop, None}
use Rattle.dfdl_escapes.specs.Written.{last_of}
use Rattle.dfdl_escapes.proofs.writing.last_of.Given as goal

-- the last character is that of what is left, behind the last one so far
abbrev pub invariant-loop-place : goal.invariant-loop-place
invariant-loop-place l = last_of l.last (drop l.place-index l.places) ≡ last_of None l.places
