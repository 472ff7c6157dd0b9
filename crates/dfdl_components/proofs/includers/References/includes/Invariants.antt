use Rattle.std.proofs.Common.{◌≡◌, drop, map}
use Rattle.dfdl_documents.specs.Shown.{reference_shown}
use Rattle.dfdl_components.specs.Namespaces.{includes_in}
use Rattle.dfdl_components.proofs.includers.References.includes.Given as goal

abbrev pub invariant-loop-reference : goal.invariant-loop-reference
invariant-loop-reference l = includes_in (map reference_shown (drop l.reference-index l.reference-items)) l.name
    ≡ includes_in (map reference_shown l.reference-items) l.name
