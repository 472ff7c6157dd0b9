use Rattle.std.proofs.Common.{◌≡◌, ◌++◌, drop}
use Rattle.std.specs.List.{flat_map}
use Rattle.dfdl_components.specs.Recursion.{number_inside}
use Rattle.dfdl_components.proofs.parts.add_inside.Given as goal

abbrev pub invariant-loop-child : goal.invariant-loop-child
invariant-loop-child l = l.parts.items ++ flat_map (number_inside l.schema l.fn.site) (drop l.child-index l.child-items)
    ≡ l.fn.parts.items ++ flat_map (number_inside l.schema l.fn.site) l.child-items
