use Rattle.std.proofs.Common.{◌≡◌, drop}
use Rattle.dfdl_constructs.specs.Comparing.{is_greater}
use Rattle.dfdl_constructs.proofs.digits.is_greater.Given as goal

-- what is left answers the same as all
abbrev pub invariant-loop-at : goal.invariant-loop-at
invariant-loop-at l = is_greater (drop l.at l.first) (drop l.at l.second) ≡ is_greater l.first l.second
