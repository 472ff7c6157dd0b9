use Rattle.std.proofs.Common.{◌≡◌, ◌++◌, drop, map}
use Rattle.dfdl_documents.specs.References.{references_among}
use Rattle.dfdl_documents.specs.Shown.{document_of, reference_shown}
use Rattle.dfdl_documents.proofs.references.references_of.Given as goal

-- what was found, and what the elements that are left give, are all
abbrev pub invariant-loop-element : goal.invariant-loop-element
invariant-loop-element l =
    map reference_shown l.references.items ++ references_among (document_of l.loaded) (drop l.element-index l.element-items)
    ≡ references_among (document_of l.loaded) l.element-items
