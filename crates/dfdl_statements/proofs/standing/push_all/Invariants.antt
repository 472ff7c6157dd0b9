use Rattle.std.proofs.Common.{◌≡◌, ◌+◌, ◌-◌, ◌++◌}
use Rattle.dfdl_statements.specs.Standing.{standings_from}
use Rattle.dfdl_statements.proofs.standing.push_all.Given as goal

abbrev pub invariant-loop-step : goal.invariant-loop-step
invariant-loop-step l =
    l.list.items ++ standings_from (l.statements.first + l.step) (l.statements.count - l.step) l.place
    ≡ l.initial.list.items ++ standings_from l.statements.first l.statements.count l.place
