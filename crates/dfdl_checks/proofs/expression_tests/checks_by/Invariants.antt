use Rattle.std.proofs.Common.{◌≡◌, ◌++◌, drop, map}
use Rattle.dfdl_checks.specs.JudgedShown.{test_judged_of}
use Rattle.dfdl_checks.specs.Tests.{checks_by}
use Rattle.dfdl_checks.proofs.expression_tests.checks_by.Given as goal

-- those so far, and those of the tests that are left
abbrev pub invariant-loop-test : goal.invariant-loop-test
invariant-loop-test l = l.checks.items ++ checks_by (map test_judged_of (drop l.test-index l.tests)) ≡ checks_by (map test_judged_of l.tests)
