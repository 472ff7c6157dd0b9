use Rattle.std.proofs.Common.{◌≡◌, ◌≤◌, ◌++◌, drop, vec_capacity}
use Rattle.dfdl_region.specs.Bytes.{utf8_of}
use Rattle.dfdl_region.proofs.text.put_characters.Given as goal

-- what was put, and the characters that are left, are all
abbrev pub invariant-loop-c : goal.invariant-loop-c
invariant-loop-c l =
    (l.bytes.items ++ utf8_of (drop l.c-index l.characters) ≡ l.fn.bytes.items ++ utf8_of l.characters)
    × (vec_capacity l.fn.bytes ≤ vec_capacity l.bytes)
