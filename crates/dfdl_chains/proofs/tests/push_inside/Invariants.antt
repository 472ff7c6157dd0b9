use Rattle.std.proofs.Common.{◌≡◌, ◌++◌, drop, map}
use Rattle.std.specs.List.{flat_map}
use Rattle.dfdl_checks.specs.JudgedShown.{test_judged_of}
use Rattle.dfdl_chains.specs.Tests.{tests_in}
use Rattle.dfdl_chains.proofs.tests.push_inside.Given as goal

abbrev pub invariant-loop-child : goal.invariant-loop-child
invariant-loop-child l = map test_judged_of l.tests.items ++ flat_map (tests_in l.schema l.fn.site.document) (drop l.child-index l.child-items)
    ≡ map test_judged_of l.fn.tests.items ++ flat_map (tests_in l.schema l.fn.site.document) l.child-items
