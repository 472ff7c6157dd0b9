use Rattle.std.proofs.Common.{◌≡◌, ◌++◌, drop}
use Rattle.dfdl_escapes.specs.Written.{block_text}
use Rattle.dfdl_escapes.proofs.writing.put_block_text.Given as goal

-- the characters that are left are still to be put
abbrev pub invariant-loop-place : goal.invariant-loop-place
invariant-loop-place l = l.into.items ++ block_text l.scheme (drop l.place-index l.places) ≡ l.fn.into.items ++ block_text l.scheme l.places
