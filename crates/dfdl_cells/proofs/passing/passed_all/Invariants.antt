use Rattle.std.proofs.Common.{◌≡◌, drop}
use Rattle.dfdl_cells.specs.Asking as asking
use Rattle.dfdl_cells.proofs.passing.passed_all.Given as goal

-- what is left comes to what all does
abbrev pub invariant-loop-step : goal.invariant-loop-step
invariant-loop-step l =
    asking.passed_all l.fn.cells l.fn.known (drop l.step-index l.fn.steps) l.at
    ≡ asking.passed_all l.fn.cells l.fn.known l.fn.steps l.fn.n
