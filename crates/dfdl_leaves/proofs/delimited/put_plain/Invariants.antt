use Rattle.std.proofs.Common.{◌≡◌, ◌≤◌, ◌+◌, ◌-◌, ◌++◌, drop, length, vec_len, vec_capacity}
use Rattle.dfdl_grammar.specs.Delimited.{plain}
use Rattle.dfdl_leaves.proofs.delimited.put_plain.Given as goal

-- what was put, and the characters that are left, are all, and there is room for these
abbrev pub invariant-loop-character : goal.invariant-loop-character
invariant-loop-character l =
    (l.into.items ++ plain (drop l.character-index l.content) ≡ plain l.content)
    × (vec_len l.into + (length l.content - l.character-index) ≤ vec_capacity l.into)
