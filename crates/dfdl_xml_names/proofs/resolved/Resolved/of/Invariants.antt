use Rattle.std.specs.Prelude.{map, take}
use Rattle.dfdl_markup.specs.Values.{names_of}
use Rattle.dfdl_xml_names.specs.Shown.{attribute_of}
use Rattle.dfdl_xml_names.specs.Scoped.{scope_seen}
use Rattle.dfdl_xml_names.specs.Expanded.{IsResolved}
use Rattle.dfdl_xml_names.proofs.resolved.Resolved.of.Given as goal

abbrev pub invariant-loop-attribute : goal.invariant-loop-attribute
invariant-loop-attribute l =
    IsResolved l.resolved (scope_seen l.scope) (names_of (map attribute_of (take l.attribute-index l.attributes)))
