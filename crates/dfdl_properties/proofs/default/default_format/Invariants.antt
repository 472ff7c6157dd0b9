use Rattle.std.proofs.Common.{◌≡◌, drop, filter}
use Rattle.std.specs.List.{flat_map}
use Rattle.dfdl_markup.specs.Trees.{node_at}
use Rattle.dfdl_properties.specs.Forms.{is_one}
use Rattle.dfdl_properties.specs.Own.{default_format_of, first, formats_in, is_annotation}
use Rattle.dfdl_properties.proofs.default.default_format.Given as goal

-- in what is left stands the same first one as in all
abbrev pub invariant-loop-child : goal.invariant-loop-child
invariant-loop-child l =
    first (flat_map (formats_in l.tree) (filter (is_one l.tree is_annotation) (drop l.child-index (node_at l.tree 0).children)))
    ≡ default_format_of l.tree
