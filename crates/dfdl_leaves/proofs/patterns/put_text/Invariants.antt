use Rattle.std.proofs.Common.{◌≡◌, ◌++◌, drop, string_bytes}
use Rattle.dfdl_region.specs.Bytes.{utf8_of}
use Rattle.dfdl_leaves.proofs.patterns.put_text.Given as goal

-- what was put, and the characters that are left, are all
abbrev pub invariant-loop-c : goal.invariant-loop-c
invariant-loop-c l = string_bytes l.into ++ utf8_of (drop l.c-index l.characters) ≡ utf8_of l.characters
