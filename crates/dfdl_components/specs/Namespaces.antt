-- The target namespaces of documents ('Schema Component Model', and the rule of XML Schema that an
-- included document without a target namespace takes that of the document that includes it).
use Rattle.std.specs.Prelude.{◌≡◌, ℕ, zero, suc, ◌<◌, ◌&&◌, get_or, Bool, true, false, List, [], length, Option, Some, None}
use Rattle.std.specs.Prelude.{if◌then◌else◌, codes, bytes_eq}
use Rattle.std.specs.List.{list_any}
use Rattle.dfdl_documents.specs.declared.reference.ReferenceKind.{ReferenceKind}
use Rattle.dfdl_documents.specs.declared.reference.ReferenceKind.TheVariants.{Include, Import}
use Rattle.dfdl_documents.specs.Documents.{SchemaDocument, Reference}
use Rattle.dfdl_documents.specs.Loading.{document_at}
use Rattle.dfdl_documents.specs.References.{references_of}
use Rattle.dfdl_constructs.specs.Elements.{plain_of}
use Rattle.dfdl_components.specs.Searching.{first_below}
use Rattle.dfdl_components.specs.Sites.{nodes_of}

-- the target namespace that a document has itself, which may be none
abbrev pub own_namespace : List SchemaDocument → ℕ → Option (List ℕ)
own_namespace documents document = plain_of (nodes_of documents document) 0 (codes "targetNamespace")

-- a document is included, and not imported
abbrev pub is_include : ReferenceKind → Bool
is_include Include = true
is_include Import = false

-- one of the references includes the document of this name
abbrev pub includes_in : List Reference → List ℕ → Bool
includes_in references name =
    list_any (λ (r : Reference). is_include r.kind && bytes_eq r.name name) references

-- a document, if its references include the document of this name
abbrev pub if_includes : List Reference → List ℕ → ℕ → Option ℕ
if_includes references name other = if includes_in references name then Some other else None

-- the first document that includes another
abbrev pub includer_of : List SchemaDocument → ℕ → Option ℕ
includer_of documents document =
    first_below (λ other. if_includes (references_of (document_at documents other))
    (document_at documents document).name other) (length documents)

-- the own namespace, else that of the document that includes it, else none, which is the empty text
abbrev pub own_or : Option (List ℕ) → (ℕ → List ℕ) → Option ℕ → List ℕ
own_or (Some namespace) outer includer = namespace
own_or None outer (Some includer) = outer includer
own_or None outer None = []

-- the target namespace of a document, through at most so many others that include one another
abbrev pub namespace_within : ℕ → List SchemaDocument → ℕ → List ℕ
namespace_within zero documents document = []
namespace_within (suc steps) documents document =
    own_or (own_namespace documents document) (namespace_within steps documents)
    (includer_of documents document)

-- the target namespace of a document
unfoldable pub namespace_of : List SchemaDocument → ℕ → List ℕ
namespace_of documents document = namespace_within (suc (length documents)) documents document

-- for each document the first that includes it
pub record AreIncluders (documents : List SchemaDocument) (includers : List (Option ℕ)) : Type 0 where
  pub count : length includers ≡ length documents
  pub each : (document : ℕ) → document < length documents → get_or includers document None ≡ includer_of documents document

-- the first of so many lists of references that include the document of this name
abbrev pub includer_among : List (List Reference) → List ℕ → ℕ → Option ℕ
includer_among all name n = first_below (λ other. if_includes (get_or all other []) name other) n

-- these are the references of the first documents
pub record AreReferences (documents : List SchemaDocument) (n : ℕ) (all : List (List Reference)) : Type 0 where
  pub count : length all ≡ n
  pub each : (i : ℕ) → i < n → get_or all i [] ≡ references_of (document_at documents i)
