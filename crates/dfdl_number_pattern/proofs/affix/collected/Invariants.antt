use Rattle.std.proofs.Common.{◌≡◌}
use Rattle.dfdl_number_pattern.proofs.affix.collected.Given as goal

-- the characters so far are those that were yielded
abbrev pub invariant-loop-c : goal.invariant-loop-c
invariant-loop-c l = l.characters.items ≡ l.yielded
