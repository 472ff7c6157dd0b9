-- Mirror for the prover: what is kept of each element of a schema.
use Rattle.std.specs.Prelude.{◌≡◌, ℕ, ◌<◌, List, length, get_or, Option, None, option_map, true, if◌then◌else◌}
use Rattle.dfdl_documents.specs.Documents.{SchemaDocument}
use Rattle.dfdl_components.specs.declared.site.Site.{Site}
use Rattle.dfdl_components.specs.Sites.{IsSite, nodes_of, role_of}
use Rattle.dfdl_components.specs.Recursion.{number_of}
use Rattle.dfdl_properties.specs.Own.{format_given_at, given_at, repeats_at}
use Rattle.dfdl_properties.specs.Shown.{value_by_format}
use Rattle.dfdl_scope.specs.Scoping.{Given, nothing}
use Rattle.dfdl_scope.specs.Shown.{given, given_twice}
use Rattle.dfdl_scope.specs.declared.properties.Properties.{Properties}
use Rattle.dfdl_scope.specs.declared.format.Format.{Format}
use Rattle.dfdl_references.specs.References.{default_of, format_after, format_of, is_format}
use Rattle.dfdl_breaches.specs.Formats.{format_value}
use Rattle.dfdl_breaches.specs.Elements.{place_of}
use Rattle.dfdl_breaches.specs.declared.entry.Entry.{Entry}

-- a relation holds of the first elements and what a table has of them
pub record AreTabled {X : Type 0} (relation : Site → X → Type 0) (sites : List Site) (n : ℕ) (table : List X) : Type 0 where
  pub count : length table ≡ n
  pub each : (i : ℕ) (own : Site) (other : X) → i < n → relation (get_or sites i own) (get_or table i other)

-- what a format gives by itself; every other element gives nothing
abbrev pub format_own : List SchemaDocument → Site → Given
format_own documents own =
    if is_format (role_of documents own) then format_given_at (nodes_of documents own.document) own.element else nothing

-- the number of the format that a format refers to
unfoldable pub number_after : List SchemaDocument → Site → Option ℕ
number_after documents own =
    if is_format (role_of documents own) then option_map (number_of documents) (format_after documents own) else None

-- what is kept of an element as a format
abbrev pub IsFormatOwn : List SchemaDocument → Site → Properties → Type 0
IsFormatOwn documents own properties = (name : List ℕ) → given properties name ≡ format_own documents own name

-- the formats of a schema are joined
pub record AreJoined (documents : List SchemaDocument) (count : ℕ) (formats : List Format) : Type 0 where
  pub counted : length formats ≡ count
  pub each : (own : Site) (name : List ℕ) → IsSite documents own → is_format (role_of documents own) ≡ true
      → value_by_format formats (number_of documents own) name ≡ format_value documents own name

-- what is kept of an element
pub record IsEntry (documents : List SchemaDocument) (own : Site) (entry : Entry) : Type 0 where
  pub place : entry.place ≡ place_of documents own
  pub values : (name : List ℕ) → given entry.own name ≡ given_at (nodes_of documents own.document) own.element name
  pub twice : (name : List ℕ) → given_twice entry.own name ≡ repeats_at (nodes_of documents own.document) own.element name
  pub format : entry.format ≡ option_map (number_of documents) (format_of documents own)
  pub by_default : entry.default ≡ option_map (number_of documents) (default_of documents own.document)

-- the number of the default format of each of the first documents
pub record AreDefaults (documents : List SchemaDocument) (n : ℕ) (defaults : List (Option ℕ)) : Type 0 where
  pub counted : length defaults ≡ n
  pub each : (d : ℕ) (other : Option ℕ) → d < n → get_or defaults d other ≡ option_map (number_of documents) (default_of documents d)
