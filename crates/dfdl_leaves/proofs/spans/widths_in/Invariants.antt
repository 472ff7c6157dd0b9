use Rattle.std.proofs.Common.{◌≡◌, ◌+◌, ◌*◌, ◌≤◌, drop}
use Rattle.dfdl_grammar.specs.Spans.{widths_in}
use Rattle.dfdl_leaves.proofs.spans.widths_in.Given as goal

-- the bytes that were counted, and those of the characters that are left, are all; each character has at most four
abbrev pub invariant-loop-c : goal.invariant-loop-c
invariant-loop-c l =
    (l.width + widths_in l.encoding (drop l.c-index l.characters) ≡ widths_in l.encoding l.characters) × (l.width ≤ 4 * l.c-index)
