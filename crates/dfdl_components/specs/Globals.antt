-- The global components of a schema, and their names ('DFDL Schema Component Model').
use Rattle.std.specs.Prelude.{ℕ, ◌&&◌, Bool, true, false, not, List, length, Option, Some, None}
use Rattle.std.specs.Prelude.{if◌then◌else◌, codes, bytes_eq, option_map}
use Rattle.dfdl_markup.specs.Trees.{Node}
use Rattle.dfdl_constructs.specs.declared.role.Role.{Role}
use Rattle.dfdl_constructs.specs.declared.role.Role.TheVariants as role
use Rattle.dfdl_constructs.specs.Roles.{role_at}
use Rattle.dfdl_constructs.specs.Elements.{plain_of}
use Rattle.dfdl_documents.specs.Documents.{SchemaDocument}
use Rattle.dfdl_components.specs.declared.kind.ComponentKind.{ComponentKind}
use Rattle.dfdl_components.specs.declared.kind.ComponentKind.TheVariants as kind
use Rattle.dfdl_components.specs.declared.site.Site.{Site}
use Rattle.dfdl_components.specs.Searching.{first_below}
use Rattle.dfdl_components.specs.Sites.{nodes_of, role_of, is_same}
use Rattle.dfdl_components.specs.Namespaces.{namespace_of}

-- the kind of global component that an element is; complex and simple types are of one kind
abbrev pub kind_of : Role → Option ComponentKind
kind_of role.GlobalElement = Some kind.Element
kind_of role.GlobalComplexType = Some kind.Type
kind_of role.GlobalSimpleType = Some kind.Type
kind_of role.GlobalGroup = Some kind.Group
kind_of role.DefineFormat = Some kind.Format
kind_of role.DefineEscapeScheme = Some kind.EscapeScheme
kind_of role.DefineVariable = Some kind.Variable
kind_of _ = None

-- the two kinds are one
abbrev pub is_kind : ComponentKind → Option ComponentKind → Bool
is_kind kind.Element (Some kind.Element) = true
is_kind kind.Type (Some kind.Type) = true
is_kind kind.Group (Some kind.Group) = true
is_kind kind.Format (Some kind.Format) = true
is_kind kind.EscapeScheme (Some kind.EscapeScheme) = true
is_kind kind.Variable (Some kind.Variable) = true
is_kind _ _ = false

-- the text is there, and is this one
abbrev pub is_text : List ℕ → Option (List ℕ) → Bool
is_text text None = false
is_text text (Some other) = bytes_eq other text

-- the `name` of an element
abbrev pub name_at : List Node → ℕ → Option (List ℕ)
name_at nodes element = plain_of nodes element (codes "name")

-- an element of a document is a global component of this kind and local name
abbrev pub is_named : List Node → ComponentKind → List ℕ → ℕ → Bool
is_named nodes kind local element =
    is_kind kind (kind_of (role_at nodes element)) && is_text local (name_at nodes element)

-- the element, if it is
abbrev pub named_at : List Node → ComponentKind → List ℕ → ℕ → Option ℕ
named_at nodes kind local element = if is_named nodes kind local element then Some element else None

-- the first global component of this kind and local name in a document
abbrev pub first_in : List Node → ComponentKind → List ℕ → Option ℕ
first_in nodes kind local = first_below (named_at nodes kind local) (length nodes)

-- the element of a document
abbrev pub site : ℕ → ℕ → Site
site document element = record { document = document; element = element }

-- the first global component of this kind and local name in a document, where the document has this
-- namespace
abbrev pub global_in : List SchemaDocument → ComponentKind → List ℕ → List ℕ → ℕ → Option Site
global_in documents kind namespace local document =
    if bytes_eq namespace (namespace_of documents document)
    then option_map (site document) (first_in (nodes_of documents document) kind local)
    else None

-- the first global component of this kind and name
abbrev pub global : List SchemaDocument → ComponentKind → List ℕ → List ℕ → Option Site
global documents kind namespace local =
    first_below (global_in documents kind namespace local) (length documents)

-- there is such an element, and it is another
abbrev pub is_other : Site → Option Site → Bool
is_other own None = false
is_other own (Some other) = not (is_same own other)

-- an element is a global component of this kind and name, and not the first one
abbrev pub is_later : List SchemaDocument → Site → Option ComponentKind → Option (List ℕ) → Bool
is_later documents own (Some kind) (Some local) =
    is_other own (global documents kind (namespace_of documents own.document) local)
is_later documents own _ _ = false

-- an element is a global component whose kind and name an earlier one has
abbrev pub is_global_twice : List SchemaDocument → Site → Bool
is_global_twice documents own =
    is_later documents own (kind_of (role_of documents own))
    (name_at (nodes_of documents own.document) own.element)
