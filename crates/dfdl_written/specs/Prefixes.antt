-- Which namespaces prefixes stand for where a text is written ('Namespaces in XML 1.0').
use Rattle.std.specs.Prelude.{◌≡◌, ℕ, ◌<◌, ◌&&◌, Bool, List, [], length, get_or, Option, None, Some, if◌then◌else◌, option_map, bytes_eq, chars, encode_utf8_all, string_bytes}
use Rattle.std.specs.BTreeMap.{BTreeMap, get_by_text}
use Rattle.std.specs.List.{list_any}
use Rattle.std.specs.Prelude.{String}
use Rattle.dfdl_markup.specs.Trees.{Node, local_part, prefix_at}
use Rattle.dfdl_markup.specs.Values.{Attribute}
use Rattle.dfdl_constructs.specs.Elements.{is_declaration}
use Rattle.dfdl_documents.specs.Documents.{SchemaDocument}
use Rattle.dfdl_documents.specs.Loading.{is_among}
use Rattle.dfdl_components.specs.declared.site.Site.{Site}
use Rattle.dfdl_components.specs.Sites.{nodes_of}

-- an attribute declares a namespace for this prefix
abbrev pub declares : List ℕ → Attribute → Bool
declares prefix attribute = is_declaration attribute && bytes_eq (encode_utf8_all (local_part attribute.name)) prefix

-- an attribute of an element does
abbrev pub declares_among : List ℕ → Node → Bool
declares_among prefix node = list_any (declares prefix) node.attributes

-- some element of a document declares a namespace for this prefix
abbrev pub is_declared : List Node → List ℕ → Bool
is_declared nodes prefix = list_any (declares_among prefix) nodes

-- the namespace that a prefix stands for at an element
abbrev pub namespace_in : List Node → ℕ → List ℕ → Option (List ℕ)
namespace_in nodes element prefix = option_map encode_utf8_all (prefix_at nodes element (chars prefix))

-- the same of a prefix that is one of some
abbrev pub namespace_among : List (List ℕ) → List Node → ℕ → List ℕ → Option (List ℕ)
namespace_among prefixes nodes element prefix = if is_among prefixes prefix then namespace_in nodes element prefix else None

-- the namespace of a prefix where one more has a namespace, or has none
abbrev pub namespace_with : List ℕ → Option (List ℕ) → List ℕ → Option (List ℕ) → Option (List ℕ)
namespace_with name None prefix before = before
namespace_with name (Some namespace) prefix before = if bytes_eq name prefix then Some namespace else before

-- the same of an element of the documents, where its document declares the prefix
abbrev pub namespace_at : List SchemaDocument → Site → List ℕ → Option (List ℕ)
namespace_at documents own prefix =
    if is_declared (nodes_of documents own.document) prefix then namespace_in (nodes_of documents own.document) own.element prefix else None

-- a map has the namespaces of the prefixes in scope at an element
abbrev pub HasNamespaces : {Y : Type 0} → List SchemaDocument → Site → BTreeMap (String Y) (String Y) → Type 0
HasNamespaces documents own prefixes = (q : List ℕ) → option_map string_bytes (get_by_text prefixes q) ≡ namespace_at documents own q

-- these are the prefixes that some element of a document declares
abbrev pub AreDeclaredIn : List Node → List (List ℕ) → Type 0
AreDeclaredIn nodes prefixes = (q : List ℕ) → is_among prefixes q ≡ is_declared nodes q

-- these are those of each document
pub record AreDeclared (documents : List SchemaDocument) (prefixes : List (List (List ℕ))) : Type 0 where
  pub counted : length prefixes ≡ length documents
  pub each : (d : ℕ) → d < length documents → AreDeclaredIn (nodes_of documents d) (get_or prefixes d [])
