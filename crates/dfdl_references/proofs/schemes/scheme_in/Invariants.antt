use Rattle.std.proofs.Common.{◌≡◌, drop, filter}
use Rattle.dfdl_markup.specs.Trees.{node_at}
use Rattle.dfdl_properties.specs.Forms.{children_of, is_one}
use Rattle.dfdl_properties.specs.Own.{first}
use Rattle.dfdl_references.specs.Schemes.{is_escape_scheme}
use Rattle.dfdl_references.proofs.schemes.scheme_in.Given as goal

-- among what is left stands the same as among all
abbrev pub invariant-loop-child : goal.invariant-loop-child
invariant-loop-child l =
    first (filter (is_one l.tree is_escape_scheme) (drop l.child-index (node_at l.tree l.definition).children))
    ≡ first (children_of l.tree is_escape_scheme l.definition)
