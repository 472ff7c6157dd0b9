use Rattle.std.proofs.Common.{◌≡◌, map}
use Rattle.dfdl_written.specs.Variables.{definition_of}
use Rattle.dfdl_written.proofs.variables.definitions.Given as goal

-- those so far
abbrev pub invariant-loop-variable : goal.invariant-loop-variable
invariant-loop-variable l = l.made.items ≡ map definition_of l.yielded
