use Rattle.std.proofs.Common.{◌≡◌, ◌++◌}
use Rattle.dfdl_grammar.specs.Paths.{path_of, path_within}
use Rattle.dfdl_parse.specs.Named.{named}
use Rattle.dfdl_parse.proofs.path.path_of.Given as goal

abbrev pub invariant-loop-inner : goal.invariant-loop-inner
invariant-loop-inner l =
    path_within l.terms l.nodes l.left l.inner ++ named l.terms l.nodes l.numbers.items ≡ path_of l.terms l.nodes l.fn.number

abbrev pub decreases-loop-inner : goal.decreases-loop-inner
decreases-loop-inner l = l.left
