use Rattle.std.proofs.Common.{◌≡◌, drop}
use Rattle.std.specs.List.{list_any}
use Rattle.dfdl_markup.specs.Trees.{node_at}
use Rattle.dfdl_constructs.specs.OutsideSubset.{is_content}
use Rattle.dfdl_constructs.proofs.outside.has_content.Given as goal

-- what is left answers the same as all
abbrev pub invariant-loop-child : goal.invariant-loop-child
invariant-loop-child l =
    let children = (node_at l.tree l.element).children in
    list_any (is_content l.tree l.role) (drop l.child-index children) ≡ list_any (is_content l.tree l.role) children
