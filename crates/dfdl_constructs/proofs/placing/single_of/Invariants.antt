use Rattle.std.proofs.Common.{◌≡◌, drop}
use Rattle.std.specs.List.{find}
use Rattle.dfdl_markup.specs.Trees.{node_at}
use Rattle.dfdl_constructs.specs.Roles.{is_single_at}
use Rattle.dfdl_constructs.proofs.placing.single_of.Given as goal

-- what is left gives the same as all
abbrev pub invariant-loop-child : goal.invariant-loop-child
invariant-loop-child l =
    let children = (node_at l.tree l.element).children in
    find (is_single_at l.tree l.role) (drop l.child-index children) ≡ find (is_single_at l.tree l.role) children
