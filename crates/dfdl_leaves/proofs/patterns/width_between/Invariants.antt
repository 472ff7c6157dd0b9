use Rattle.std.proofs.Common.{◌≡◌, ◌+◌, ◌*◌, ◌≤◌, drop}
use Rattle.dfdl_grammar.specs.Patterns.{width_between}
use Rattle.dfdl_leaves.proofs.patterns.width_between.Given as goal

-- the bytes that were counted, and those of the characters that are left, are all; each character has at most four
abbrev pub invariant-loop-c : goal.invariant-loop-c
invariant-loop-c l =
    (l.width + width_between l.encoding (drop l.c-index l.characters) l.at l.from l.to ≡ width_between l.encoding l.characters 0 l.from l.to)
    × ((l.width ≤ 4 * l.c-index) × (l.at ≤ 4 * l.c-index))
