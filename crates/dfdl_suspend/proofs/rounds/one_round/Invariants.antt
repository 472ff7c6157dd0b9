use Rattle.std.proofs.Common.{◌≡◌}
use Rattle.dfdl_suspend.proofs.Rounding.{Going}
use Rattle.dfdl_suspend.proofs.rounds.one_round.Given as goal

abbrev pub invariant-loop-cell : goal.invariant-loop-cell
invariant-loop-cell g l =
    (l.equations ≡ l.fn.equations) × Going (g.E.Equations.equation l.fn.equations) l.fn.known l.known l.cell l.moved
