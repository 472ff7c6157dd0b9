use Rattle.std.proofs.Common.{◌≡◌, drop}
use Rattle.dfdl_documents.specs.References.{references_among, names_in}
use Rattle.dfdl_documents.specs.Names.{with_names}
use Rattle.dfdl_documents.specs.Shown.{document_of}
use Rattle.dfdl_documents.proofs.naming.with_names_of.Given as goal

-- the elements that are left give the same names as all
abbrev pub invariant-loop-element : goal.invariant-loop-element
invariant-loop-element l =
    with_names l.names (names_in (references_among (document_of l.loaded) (drop l.element-index l.element-items)))
    ≡ with_names l.fn.names (names_in (references_among (document_of l.loaded) l.element-items))
