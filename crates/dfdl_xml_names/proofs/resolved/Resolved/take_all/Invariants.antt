use Rattle.std.specs.Prelude.{◌≡◌, ◌++◌, ℕ, List, Some, chars, map, take}
use Rattle.dfdl_markup.specs.Grammar.{Name, Prefixed}
use Rattle.dfdl_markup.specs.Values.{Binding, found}
use Rattle.dfdl_xml_names.specs.Shown.{text_of}
use Rattle.dfdl_xml_names.specs.Expanded.{IsResolved}
use Rattle.dfdl_xml_names.proofs.resolved.Resolved.take_all.Given as goal

-- the names so far
abbrev pub invariant-loop-part : goal.invariant-loop-part
invariant-loop-part l =
    (scope : List Binding) (names : List Name) (prefix : List ℕ)
    → found scope prefix ≡ Some (chars l.namespace) → IsResolved l.fn.self scope names
    → IsResolved l.resolved scope (names ++ map (Prefixed prefix) (map text_of (take l.part-index l.parts)))
