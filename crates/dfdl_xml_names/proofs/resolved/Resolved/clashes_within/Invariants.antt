use Rattle.std.specs.Prelude.{◌≡◌, ◌++◌, List, false, map, take}
use Rattle.dfdl_markup.specs.Values.{Binding, is_found, names_of}
use Rattle.dfdl_xml_names.specs.Beyond.{picked, others}
use Rattle.dfdl_xml_names.specs.Shown.{attribute_of}
use Rattle.dfdl_xml_names.specs.Scoped.{scope_seen}
use Rattle.dfdl_xml_names.specs.Expanded.{IsResolved}
use Rattle.dfdl_xml_names.proofs.Split.{crosses}
use Rattle.dfdl_xml_names.proofs.resolved.Resolved.clashes_within.Given as goal

-- the others so far, none of which is the same as one that is found
abbrev pub invariant-loop-attribute : goal.invariant-loop-attribute
invariant-loop-attribute l =
    (outer : List Binding) → scope_seen l.scope ≡ scope_seen l.own ++ outer
    → IsResolved l.self (scope_seen l.own) (names_of (map attribute_of l.attributes))
    → IsResolved l.more (scope_seen l.scope)
    (others (is_found (scope_seen l.own)) (names_of (map attribute_of (take l.attribute-index l.attributes))))
    × (crosses (scope_seen l.own) outer (picked (is_found (scope_seen l.own)) (names_of (map attribute_of l.attributes)))
    (others (is_found (scope_seen l.own)) (names_of (map attribute_of (take l.attribute-index l.attributes)))) ≡ false)
