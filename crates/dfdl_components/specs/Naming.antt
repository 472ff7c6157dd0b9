-- What a name that is written at an element names ('Namespaces in XML 1.0', 'DFDL Schema Component
-- Model').
use Rattle.std.specs.Prelude.{ℕ, ◌&&◌, Bool, true, false, List, [], ◌∷◌, Option, Some, None}
use Rattle.std.specs.Prelude.{if◌then◌else◌, bytes_eq, chars, encode_utf8_all, option_map, is_none, is_some}
use Rattle.std.specs.List.{list_any}
use Rattle.dfdl_markup.specs.Trees.{prefix_at}
use Rattle.dfdl_constructs.specs.Elements.{schema_namespace}
use Rattle.dfdl_constructs.specs.Values.{prefix_in, local_in}
use Rattle.dfdl_documents.specs.Documents.{SchemaDocument}
use Rattle.dfdl_components.specs.declared.kind.ComponentKind.{ComponentKind}
use Rattle.dfdl_components.specs.declared.kind.ComponentKind.TheVariants as kind
use Rattle.dfdl_components.specs.declared.named.Named.{Named}
use Rattle.dfdl_components.specs.declared.named.Named.TheVariants.{Component, Carried, NotCarried}
use Rattle.dfdl_components.specs.declared.site.Site.{Site}
use Rattle.dfdl_components.specs.BuiltIns.{carried_types, other_types}
use Rattle.dfdl_components.specs.Sites.{nodes_of, role_of}
use Rattle.dfdl_components.specs.Namespaces.{own_namespace, namespace_of}
use Rattle.dfdl_components.specs.Globals.{global}
use Rattle.dfdl_components.specs.References.{Referring, referring, kind_referred, name_given}

-- the namespace of a name without a prefix, where no default namespace is declared: none, or that
-- which the document took from the one that includes it
abbrev pub unprefixed : Option (List ℕ) → List ℕ → List ℕ
unprefixed (Some own) taken = []
unprefixed None taken = taken

-- a namespace that is declared for a prefix, or for the empty one; else none, or the one given
abbrev pub declared_or : Option (List ℕ) → List ℕ → List ℕ → Option (List ℕ)
declared_or (Some namespace) prefix otherwise = Some (encode_utf8_all namespace)
declared_or None [] otherwise = Some otherwise
declared_or None (b ∷ prefix) otherwise = None

-- the namespace of names with this prefix at an element
abbrev pub namespace_written : List SchemaDocument → Site → List ℕ → Option (List ℕ)
namespace_written documents own prefix =
    declared_or (prefix_at (nodes_of documents own.document) own.element (chars prefix)) prefix
    (unprefixed (own_namespace documents own.document) (namespace_of documents own.document))

-- the text is one of these
abbrev pub is_among : List (List ℕ) → List ℕ → Bool
is_among texts text = list_any (λ other. bytes_eq other text) texts

-- a simple type of XML Schema's
abbrev pub built_in : List ℕ → Option Named
built_in local =
    if is_among carried_types local then Some Carried
    else (if is_among other_types local then Some NotCarried else None)

-- the kind is that of types
abbrev pub is_type : ComponentKind → Bool
is_type kind.Type = true
is_type _ = false

-- what a name in a namespace names: a simple type of XML Schema's, or the first global component
abbrev pub named : List SchemaDocument → ComponentKind → List ℕ → List ℕ → Option Named
named documents kind namespace local =
    if is_type kind && (bytes_eq namespace schema_namespace && is_some (built_in local))
    then built_in local
    else option_map Component (global documents kind namespace local)

-- what a name in no known namespace names: nothing
abbrev pub named_in : List SchemaDocument → ComponentKind → Option (List ℕ) → List ℕ → Option Named
named_in documents kind None local = None
named_in documents kind (Some namespace) local = named documents kind namespace local

-- what a name that is written at an element names
abbrev pub resolved : List SchemaDocument → Site → ComponentKind → List ℕ → Option Named
resolved documents own kind text =
    named_in documents kind (namespace_written documents own (prefix_in text)) (local_in text)

-- the name is there, and names nothing
abbrev pub is_nothing : List SchemaDocument → Site → ComponentKind → Option (List ℕ) → Bool
is_nothing documents own kind None = false
is_nothing documents own kind (Some text) = is_none (resolved documents own kind text)

-- an attribute of an element refers to nothing
abbrev pub refers_to_nothing : List SchemaDocument → Site → Referring → Bool
refers_to_nothing documents own r =
    is_nothing documents own (kind_referred r)
    (name_given (nodes_of documents own.document) own.element r)

-- a reference of an element names nothing
abbrev pub is_name_not_found : List SchemaDocument → Site → Bool
is_name_not_found documents own =
    list_any (refers_to_nothing documents own) (referring (role_of documents own))
