use Rattle.std.proofs.Common.{◌≡◌, ◌++◌, drop, map}
use Rattle.std.specs.List.{flat_map}
use Rattle.dfdl_checks.specs.JudgedShown.{test_judged_of}
use Rattle.dfdl_chains.specs.Tests.{test_if}
use Rattle.dfdl_chains.proofs.tests.push_children.Given as goal

abbrev pub invariant-loop-child : goal.invariant-loop-child
invariant-loop-child l = map test_judged_of l.tests.items ++ flat_map (test_if l.schema l.fn.site.document) (drop l.child-index l.child-items)
    ≡ map test_judged_of l.fn.tests.items ++ flat_map (test_if l.schema l.fn.site.document) l.child-items
