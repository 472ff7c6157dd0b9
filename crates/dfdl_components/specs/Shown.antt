-- Mirror for the prover: how rows of the tables are seen, and what is kept of each document.
use Rattle.std.specs.Prelude.{◌≡◌, ℕ, ◌<◌, List, length, Option, Some, None, string_bytes, is_some, get_or}
use Rattle.std.specs.BTreeMap.{get_by_text}
use Rattle.dfdl_constructs.specs.Roles.{AreRoles}
use Rattle.dfdl_documents.specs.Documents.{SchemaDocument}
use Rattle.dfdl_components.specs.References as rows
use Rattle.dfdl_components.specs.declared.referring.Referring.{Referring}
use Rattle.dfdl_components.specs.declared.referring.Referring.TheVariants as referring
use Rattle.dfdl_components.specs.declared.kind.ComponentKind.{ComponentKind}
use Rattle.dfdl_components.specs.declared.names.Names.{Names}
use Rattle.dfdl_components.specs.declared.schema.Index.{Index}
use Rattle.dfdl_components.specs.declared.kind.ComponentKind.TheVariants as kind
use Rattle.dfdl_markup.specs.Trees.{Node}
use Rattle.dfdl_components.specs.Sites.{nodes_of}
use Rattle.dfdl_components.specs.Namespaces.{own_namespace, namespace_of}
use Rattle.dfdl_components.specs.Globals.{first_in, site}
use Rattle.dfdl_components.specs.Rules.{Rule, first_at}
use Rattle.dfdl_components.specs.declared.checking.Breach.{Breach}

-- an attribute that refers to a component
abbrev pub referring_shown : Referring → rows.Referring
referring_shown (referring.Plain name kind) = rows.Plain name.now kind
referring_shown (referring.Short name kind) = rows.Short name.now kind

-- the first component of a kind and name
abbrev pub name_found : Names → ComponentKind → List ℕ → Option ℕ
name_found names kind.Element q = get_by_text names.elements q
name_found names kind.Type q = get_by_text names.types q
name_found names kind.Group q = get_by_text names.groups q
name_found names kind.Format q = get_by_text names.formats q
name_found names kind.EscapeScheme q = get_by_text names.escape_schemes q
name_found names kind.Variable q = get_by_text names.variables q

-- the first components of each kind and name in a document
abbrev pub AreNames : List Node → Names → Type 0
AreNames nodes names = (k : ComponentKind) (q : List ℕ) → name_found names k q ≡ first_in nodes k q

-- what is kept of the document of a number: the roles of its elements, its target namespace, whether
-- that is its own, and its names
pub record IsIndex (documents : List SchemaDocument) (document : ℕ) (kept : Index) : Type 0 where
  pub roles : AreRoles (nodes_of documents document) kept.roles
  pub namespace : string_bytes kept.namespace ≡ namespace_of documents document
  pub own : kept.is_own ≡ is_some (own_namespace documents document)
  pub names : AreNames (nodes_of documents document) kept.names

-- the same of each document
pub record AreIndexed (documents : List SchemaDocument) (indexes : List Index) : Type 0 where
  pub count : length indexes ≡ length documents
  pub each : (i : ℕ) (other : Index) → i < length documents → IsIndex documents i (get_or indexes i other)

-- no element of a document breaks a rule
abbrev pub AllKeepIn : List Rule → List SchemaDocument → ℕ → Type 0
AllKeepIn rules documents document = (element : ℕ) → element < length (nodes_of documents document) → first_at rules (site document element) ≡ None

-- the first element of a document that breaks a rule
pub record IsBreachIn (rules : List Rule) (documents : List SchemaDocument) (document : ℕ) (breach : Breach) : Type 0 where
  pub place : breach.site.document ≡ document
  pub within : breach.site.element < length (nodes_of documents document)
  pub broken : first_at rules breach.site ≡ Some breach.cause
  pub before : (element : ℕ) → element < breach.site.element → first_at rules (site document element) ≡ None
