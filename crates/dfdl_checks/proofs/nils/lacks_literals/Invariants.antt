use Rattle.std.proofs.Common.{◌≡◌, drop}
use Rattle.dfdl_checks.specs.Nils.{lacks_literals}
use Rattle.dfdl_checks.proofs.nils.lacks_literals.Given as goal

-- what is left answers the same as all
abbrev pub invariant-loop-at : goal.invariant-loop-at
invariant-loop-at l = lacks_literals l.encoding (drop l.at l.literals) ≡ lacks_literals l.encoding l.literals
