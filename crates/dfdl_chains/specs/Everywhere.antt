-- All elements of all documents, in the order of their numbers.
use Rattle.std.specs.Prelude.{ℕ, zero, suc, List, [], ◌∷◌, ◌++◌, length, map, get_or}
use Rattle.dfdl_documents.specs.Documents.{SchemaDocument}
use Rattle.dfdl_components.specs.declared.site.Site.{Site}
use Rattle.dfdl_components.specs.Sites.{nodes_of}
use Rattle.dfdl_components.specs.Globals.{site}

-- the first elements of a document
abbrev pub sites_in : ℕ → ℕ → List Site
sites_in document zero = []
sites_in document (suc n) = sites_in document n ++ site document n ∷ []

-- the elements of the first documents
abbrev pub sites_before : List SchemaDocument → ℕ → List Site
sites_before documents zero = []
sites_before documents (suc n) = sites_before documents n ++ sites_in n (length (nodes_of documents n))

-- the elements of all documents
unfoldable pub all_sites : List SchemaDocument → List Site
all_sites documents = sites_before documents (length documents)

-- the element of a number
abbrev pub site_at : List SchemaDocument → ℕ → Site
site_at documents number = get_or (all_sites documents) number (site 0 0)

-- a value for each element of all documents
abbrev pub for_each : {X : Type 0} → List SchemaDocument → (Site → X) → List X
for_each documents value = map value (all_sites documents)
