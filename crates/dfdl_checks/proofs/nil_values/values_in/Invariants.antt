use Rattle.std.proofs.Common.{◌≡◌, [], drop}
use Rattle.dfdl_checks.specs.NilValues.{with_values}
use Rattle.dfdl_checks.proofs.nil_values.values_in.Given as goal

-- the literals that are left give the same values as all
abbrev pub invariant-loop-at : goal.invariant-loop-at
invariant-loop-at l = with_values l.simple l.list.items (drop l.at l.literals) ≡ with_values l.simple [] l.literals
