use Rattle.std.proofs.Common.{◌≡◌, ◌++◌, drop, map}
use Rattle.std.specs.List.{flat_map}
use Rattle.dfdl_checks.specs.JudgedShown.{test_judged_of}
use Rattle.dfdl_chains.specs.Tests.{own_tests}
use Rattle.dfdl_chains.proofs.tests.push_tests.Given as goal

abbrev pub invariant-loop-site : goal.invariant-loop-site
invariant-loop-site l = map test_judged_of l.tests.items ++ flat_map (own_tests l.schema) (drop l.site-index l.chain)
    ≡ map test_judged_of l.fn.tests.items ++ flat_map (own_tests l.schema) l.chain
