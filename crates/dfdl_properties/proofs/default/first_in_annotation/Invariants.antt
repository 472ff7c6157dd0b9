use Rattle.std.proofs.Common.{◌≡◌, drop, filter}
use Rattle.std.specs.List.{flat_map}
use Rattle.dfdl_markup.specs.Trees.{node_at}
use Rattle.dfdl_properties.specs.Forms.{children_of, is_one}
use Rattle.dfdl_properties.specs.Own.{first, formats_in, is_default_format, is_dfdl_information}
use Rattle.dfdl_properties.proofs.default.first_in_annotation.Given as goal

-- in what is left stands the same first one as in all
abbrev pub invariant-loop-child : goal.invariant-loop-child
invariant-loop-child l =
    first (flat_map (children_of l.tree is_default_format) (filter (is_one l.tree is_dfdl_information) (drop l.child-index (node_at l.tree l.annotation).children)))
    ≡ first (formats_in l.tree l.annotation)
