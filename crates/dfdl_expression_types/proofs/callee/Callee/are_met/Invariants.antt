use Rattle.std.proofs.Common.{◌≡◌, drop}
use Rattle.dfdl_expression_types.specs.Callees.{are_met}
use Rattle.dfdl_expression_types.proofs.callee.Callee.are_met.Given as goal

-- all are met where those that are left are
abbrev pub invariant-loop-place : goal.invariant-loop-place
invariant-loop-place l = are_met l.self l.place (drop l.place l.arguments) ≡ are_met l.self 0 l.arguments
