use Rattle.std.proofs.Common.{◌≡◌, ◌-◌}
use Rattle.dfdl_laying.specs.Laying as laying
use Rattle.dfdl_laying.proofs.laid.Laid.wait.Given as goal

abbrev pub invariant-loop : goal.invariant-loop
invariant-loop l = laying.with_waiting l.fn.owner (l.fn.count - l.counter) l.self ≡ laying.with_waiting l.fn.owner l.fn.count l.fn.self
