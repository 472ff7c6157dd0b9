use Rattle.std.proofs.Common.{◌≡◌, drop, map}
use Rattle.std.specs.List.{list_any}
use Rattle.dfdl_checks.specs.JudgedShown.{test_judged_of}
use Rattle.dfdl_checks.specs.Tests.{is_without_text}
use Rattle.dfdl_checks.proofs.tests.some_without_text.Given as goal

-- none of the tests so far is one
abbrev pub invariant-loop-test : goal.invariant-loop-test
invariant-loop-test l = list_any is_without_text (map test_judged_of (drop l.test-index l.tests)) ≡ list_any is_without_text (map test_judged_of l.tests)
