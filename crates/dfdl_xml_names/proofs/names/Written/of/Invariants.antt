use Rattle.std.specs.Prelude.{map, take}
use Rattle.dfdl_xml_names.specs.Shown.{attribute_of}
use Rattle.dfdl_xml_names.specs.Indexed.{IsWritten}
use Rattle.dfdl_xml_names.proofs.names.Written.of.Given as goal

-- those of the attributes so far
abbrev pub invariant-loop-attribute : goal.invariant-loop-attribute
invariant-loop-attribute l = IsWritten l.written (map attribute_of (take l.attribute-index l.attributes))
