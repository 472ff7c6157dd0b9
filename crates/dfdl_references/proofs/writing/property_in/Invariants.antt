use Rattle.std.proofs.Common.{◌≡◌, drop, filter}
use Rattle.std.specs.List.{find}
use Rattle.dfdl_markup.specs.Trees.{node_at}
use Rattle.dfdl_properties.specs.Forms.{is_one, is_written_property}
use Rattle.dfdl_references.specs.Writers.{is_called, property_in}
use Rattle.dfdl_references.proofs.writing.property_in.Given as goal

-- among what is left the same is found as among all
abbrev pub invariant-loop-child : goal.invariant-loop-child
invariant-loop-child l =
    find (is_called l.tree l.name) (filter (is_one l.tree is_written_property) (drop l.child-index (node_at l.tree l.element).children))
    ≡ property_in l.tree l.name l.element
