-- Places in the documents of a schema, and their order.
use Rattle.std.specs.Prelude.{◌≡◌, ℕ, ◌<◌, ◌==◌, ◌&&◌, ◌⊎◌, Bool, List, length}
use Rattle.dfdl_markup.specs.Trees.{Node}
use Rattle.dfdl_constructs.specs.declared.role.Role.{Role}
use Rattle.dfdl_constructs.specs.Roles.{role_at}
use Rattle.dfdl_documents.specs.Documents.{SchemaDocument}
use Rattle.dfdl_documents.specs.Loading.{document_at}
use Rattle.dfdl_components.specs.declared.site.Site.{Site}

-- the elements of a document
abbrev pub nodes_of : List SchemaDocument → ℕ → List Node
nodes_of documents document = (document_at documents document).nodes

-- the documents have such an element
abbrev pub IsSite : List SchemaDocument → Site → Type 0
IsSite documents site =
    (site.document < length documents) × (site.element < length (nodes_of documents site.document))

-- what the element stands for
abbrev pub role_of : List SchemaDocument → Site → Role
role_of documents site = role_at (nodes_of documents site.document) site.element

-- the two are one element
abbrev pub is_same : Site → Site → Bool
is_same a b = a.document == b.document && a.element == b.element

-- one element stands before another: in an earlier document, or earlier in the same one
abbrev pub StandsBefore : Site → Site → Type 0
StandsBefore a b = (a.document < b.document) ⊎ ((a.document ≡ b.document) × (a.element < b.element))
