use Rattle.std.proofs.Common.{◌≡◌, ◌++◌, map}
use Rattle.dfdl_written.specs.Noting.{noted_check}
use Rattle.dfdl_written.proofs.noting.push_checks.Given as goal

-- those so far behind those before
abbrev pub invariant-loop-form : goal.invariant-loop-form
invariant-loop-form l = l.noted.items ≡ l.fn.noted.items ++ map (noted_check l.place) l.yielded
