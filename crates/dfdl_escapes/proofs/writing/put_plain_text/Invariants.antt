use Rattle.std.proofs.Common.{◌≡◌, ◌++◌, drop}
use Rattle.dfdl_escapes.specs.Written.{plain_text}
use Rattle.dfdl_escapes.proofs.writing.put_plain_text.Given as goal

-- the characters that are left are still to be put
abbrev pub invariant-loop-place : goal.invariant-loop-place
invariant-loop-place l = l.into.items ++ plain_text (drop l.place-index l.places) ≡ l.fn.into.items ++ plain_text l.places
