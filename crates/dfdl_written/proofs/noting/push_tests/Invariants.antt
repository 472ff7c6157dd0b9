use Rattle.std.proofs.Common.{◌≡◌, ◌++◌, map}
use Rattle.dfdl_written.specs.Noting.{noted_test}
use Rattle.dfdl_written.proofs.noting.push_tests.Given as goal

-- those so far behind those before
abbrev pub invariant-loop-test : goal.invariant-loop-test
invariant-loop-test l = l.noted.items ≡ l.fn.noted.items ++ map (noted_test l.place l.site) l.yielded
