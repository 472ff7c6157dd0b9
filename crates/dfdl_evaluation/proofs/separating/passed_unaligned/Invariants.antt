use Rattle.std.proofs.Common.{◌≡◌, drop}
use Rattle.dfdl_cells.specs.Asking.{passed_all}
use Rattle.dfdl_cells.specs.Separators.{unaligned}
use Rattle.dfdl_evaluation.proofs.separating.passed_unaligned.Given as goal

-- what is left comes to what all does
abbrev pub invariant-loop-step : goal.invariant-loop-step
invariant-loop-step l =
    passed_all l.fn.cells l.fn.known (unaligned (drop l.step-index l.fn.steps)) l.at
    ≡ passed_all l.fn.cells l.fn.known (unaligned l.fn.steps) l.fn.n
