use Rattle.std.proofs.Common.{◌≡◌, drop}
use Rattle.dfdl_literals.specs.Lists.{matches_nothing}
use Rattle.dfdl_literals.proofs.can_match_nothing.Given as goal

abbrev pub invariant-loop-at : goal.invariant-loop-at
invariant-loop-at l = matches_nothing (drop l.at l.literals) ≡ matches_nothing l.literals
