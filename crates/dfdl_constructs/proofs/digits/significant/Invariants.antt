use Rattle.std.proofs.Common.{◌≡◌, drop}
use Rattle.dfdl_constructs.specs.Comparing.{significant}
use Rattle.dfdl_constructs.proofs.digits.significant.Given as goal

-- what is left gives the same as all
abbrev pub invariant-loop-at : goal.invariant-loop-at
invariant-loop-at l = significant (drop l.at l.digits) ≡ significant l.digits
