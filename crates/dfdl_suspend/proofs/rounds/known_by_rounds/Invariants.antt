use Rattle.std.proofs.Common.{◌≡◌, length, ◌-◌}
use Rattle.dfdl_suspend.specs.Asks.{filled}
use Rattle.dfdl_suspend.specs.Rounds.{Reached}
use Rattle.dfdl_suspend.proofs.rounds.known_by_rounds.Given as goal

abbrev pub invariant-rounds : goal.invariant-rounds
invariant-rounds g l =
    (l.equations ≡ l.fn.equations) × (length l.known ≡ g.E.Equations.unknowns l.fn.equations)
    × Reached (g.E.Equations.unknowns l.fn.equations) (g.E.Equations.equation l.fn.equations) l.known

abbrev pub decreases-rounds : goal.decreases-rounds
decreases-rounds g l = length l.known - filled l.known
