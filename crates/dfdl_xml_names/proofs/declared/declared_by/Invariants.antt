use Rattle.std.specs.Prelude.{◌≡◌, map, take}
use Rattle.dfdl_markup.specs.Values.{bindings_of}
use Rattle.dfdl_xml_names.specs.Shown.{attribute_of}
use Rattle.dfdl_xml_names.proofs.declared.declared_by.Given as goal

-- the bindings of the attributes so far
abbrev pub invariant-loop-attribute : goal.invariant-loop-attribute
invariant-loop-attribute l = l.bindings ≡ bindings_of (map attribute_of (take l.attribute-index l.attributes))
