use Rattle.std.proofs.Common.{drop, filter}
use Rattle.std.specs.List.{flat_map}
use Rattle.dfdl_markup.specs.Trees.{node_at}
use Rattle.dfdl_scope.specs.declared.properties.Properties.{Properties}
use Rattle.dfdl_properties.specs.Forms.{is_one}
use Rattle.dfdl_properties.specs.Own.{is_dfdl_information, in_information, in_annotation}
use Rattle.dfdl_properties.specs.Shown.{IsWith}
use Rattle.dfdl_properties.proofs.annotations.add_annotation.Given as goal

-- with those of the children that are left, the properties are those at the beginning with those of all
abbrev pub invariant-loop-child : goal.invariant-loop-child
invariant-loop-child l = (last : Properties)
    → IsWith l.own (flat_map (in_information l.tree) (filter (is_one l.tree is_dfdl_information) (drop l.child-index (node_at l.tree l.annotation).children))) last
    → IsWith l.fn.own (in_annotation l.tree l.annotation) last
