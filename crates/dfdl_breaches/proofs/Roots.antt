-- Where there is no document, there is no root.
use Rattle.std.proofs.Common.{◌≡◌, List, [], ◌∷◌, length, None, refl, arith}
use Rattle.dfdl_documents.specs.Documents.{SchemaDocument}
use Rattle.dfdl_components.specs.Searching.{first_below}
use Rattle.dfdl_breaches.specs.Roots.{root_of}

pub no_documents : (documents : List SchemaDocument) → length documents ≡ 0 → None ≡ root_of documents
unfolding root_of first_below
no_documents [] none = refl
no_documents (d ∷ ds) none = absurd (omega (arith, none))
