use Rattle.std.proofs.Common.{◌≡◌, ◌≤◌, ◌+◌, ◌-◌, ◌++◌, drop, length, vec_len, vec_capacity}
use Rattle.dfdl_escapes.specs.Runs.{given_by}
use Rattle.dfdl_escapes.proofs.run.put_given.Given as goal

-- the characters of the bytes that are left are still to be put, and there is room for them
abbrev pub invariant-loop-byte : goal.invariant-loop-byte
invariant-loop-byte l =
    (l.into.items ++ given_by l.fn.mode (drop l.byte-index l.bytes) ≡ l.fn.into.items ++ given_by l.fn.mode l.bytes)
    × (vec_len l.into + (length l.bytes - l.byte-index) ≤ vec_capacity l.into)
