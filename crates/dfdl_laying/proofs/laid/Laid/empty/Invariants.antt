use Rattle.std.proofs.Common.{◌≡◌, ◌-◌}
use Rattle.dfdl_laying.specs.Running as running
use Rattle.dfdl_laying.proofs.laid.Laid.empty.Given as goal

abbrev pub invariant-loop-number : goal.invariant-loop-number
invariant-loop-number l =
    running.emptied l.number (l.fn.end - l.number) l.self ≡ running.emptied l.fn.first (l.fn.end - l.fn.first) l.fn.self
