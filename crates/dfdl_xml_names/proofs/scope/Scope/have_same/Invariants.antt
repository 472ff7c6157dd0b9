use Rattle.std.specs.Prelude.{◌≡◌, map, drop}
use Rattle.dfdl_markup.specs.Values.{names_of, have_same, same_expanded}
use Rattle.dfdl_xml_names.specs.Shown.{attribute_of}
use Rattle.dfdl_xml_names.specs.Scoped.{scope_seen}
use Rattle.dfdl_xml_names.proofs.scope.Scope.have_same.Given as goal

-- two are the same exactly where two of those that are left are
abbrev pub invariant-loop-at : goal.invariant-loop-at
invariant-loop-at l =
    have_same (same_expanded (scope_seen l.self)) (names_of (map attribute_of (drop l.at l.attributes)))
    ≡ have_same (same_expanded (scope_seen l.self)) (names_of (map attribute_of l.attributes))
