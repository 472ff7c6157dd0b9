use Rattle.std.proofs.Common.{◌≡◌, ◌++◌, drop}
use Rattle.dfdl_expression_types.specs.Paths.{named_places}
use Rattle.dfdl_expression_types.proofs.places.add_named.Given as goal

-- those that were found and those that are left are all
abbrev pub invariant-loop-number : goal.invariant-loop-number
invariant-loop-number l =
    l.found ++ named_places l.statics l.name (drop l.number-index l.numbers) ≡ l.initial.found ++ named_places l.statics l.name l.numbers
