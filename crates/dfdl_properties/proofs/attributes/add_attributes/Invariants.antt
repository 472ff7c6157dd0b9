use Rattle.std.proofs.Common.{drop}
use Rattle.dfdl_markup.specs.Trees.{node_at}
use Rattle.dfdl_scope.specs.declared.properties.Properties.{Properties}
use Rattle.dfdl_properties.specs.Forms.{among_attributes, by_attributes}
use Rattle.dfdl_properties.specs.Shown.{IsWith}
use Rattle.dfdl_properties.proofs.attributes.add_attributes.Given as goal

-- with those of the attributes that are left, the properties are those at the beginning with those of all
abbrev pub invariant-loop-at : goal.invariant-loop-at
invariant-loop-at l = (last : Properties)
    → IsWith l.own (among_attributes l.tree l.element l.namespace (drop l.at (node_at l.tree l.element).attributes)) last
    → IsWith l.fn.own (by_attributes l.tree l.element l.namespace) last
