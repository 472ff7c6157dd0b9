-- The escape schemes that names name ('Simple Types', on escape schemes, 'Syntax of DFDL Annotation Elements'). A name names a
-- definition, and stands for the scheme in it.
use Rattle.std.specs.Prelude.{ℕ, List, Option, Some, None, Bool, true, false, codes, encode_utf8_all, option_map}
use Rattle.std.specs.Option.{option_or}
use Rattle.dfdl_markup.specs.Trees.{Node, node_at}
use Rattle.dfdl_constructs.specs.declared.role.Role.{Role}
use Rattle.dfdl_constructs.specs.declared.role.Role.TheVariants as role
use Rattle.dfdl_constructs.specs.Elements.{plain_of}
use Rattle.dfdl_escape_schemes.specs.Schemes.{SchemeTold, named_by, scheme_of as scheme_by_properties}
use Rattle.dfdl_escape_schemes.specs.declared.named.NamedScheme.{NamedScheme}
use Rattle.dfdl_escape_schemes.specs.declared.named.NamedScheme.TheVariants.{Unknown}
use Rattle.dfdl_documents.specs.Documents.{SchemaDocument}
use Rattle.dfdl_components.specs.declared.kind.ComponentKind.TheVariants as kind
use Rattle.dfdl_components.specs.declared.named.Named.{Named}
use Rattle.dfdl_components.specs.declared.named.Named.TheVariants.{Component}
use Rattle.dfdl_components.specs.declared.site.Site.{Site}
use Rattle.dfdl_components.specs.Naming.{resolved}
use Rattle.dfdl_components.specs.Sites.{nodes_of}
use Rattle.dfdl_properties.specs.Forms.{children_of, trimmed}
use Rattle.dfdl_properties.specs.Own.{first}
use Rattle.dfdl_references.specs.Writers.{property_in}

-- a `dfdl:escapeScheme`
abbrev pub is_escape_scheme : Role → Bool
is_escape_scheme role.EscapeScheme = true
is_escape_scheme _ = false

-- the scheme in a definition
abbrev pub scheme_in : List Node → ℕ → Option ℕ
scheme_in nodes definition = first (children_of nodes is_escape_scheme definition)

-- the text of an element, without the white space around it
abbrev pub text_of : List Node → ℕ → List ℕ
text_of nodes element = trimmed (encode_utf8_all (node_at nodes element).text)

-- the value of a property of a scheme: in attribute form as it is, else that of its first `dfdl:property` of that name
abbrev pub scheme_property : List Node → ℕ → List ℕ → Option (List ℕ)
scheme_property nodes scheme name = option_or (plain_of nodes scheme name) (option_map (text_of nodes) (property_in nodes name scheme))

-- the properties of a scheme
abbrev pub scheme_told : List Node → ℕ → SchemeTold
scheme_told nodes scheme = record {
  kind = scheme_property nodes scheme (codes "escapeKind");
  escape = scheme_property nodes scheme (codes "escapeCharacter");
  escape_escape = scheme_property nodes scheme (codes "escapeEscapeCharacter");
  start = scheme_property nodes scheme (codes "escapeBlockStart");
  end = scheme_property nodes scheme (codes "escapeBlockEnd");
  extra = scheme_property nodes scheme (codes "extraEscapedCharacters");
  generation = scheme_property nodes scheme (codes "generateEscapeBlock");
}

-- what a definition with this scheme in it defines; one without a scheme defines none
abbrev pub scheme_by : List Node → Option ℕ → NamedScheme
scheme_by nodes None = Unknown
scheme_by nodes (Some scheme) = named_by (scheme_by_properties (scheme_told nodes scheme))

-- the scheme that a definition defines
abbrev pub scheme_at : List Node → ℕ → NamedScheme
scheme_at nodes definition = scheme_by nodes (scheme_in nodes definition)

-- the scheme of what is named
abbrev pub scheme_of_named : List SchemaDocument → Option Named → NamedScheme
scheme_of_named documents (Some (Component definition)) = scheme_at (nodes_of documents definition.document) definition.element
scheme_of_named documents _ = Unknown

-- the escape scheme that a text names which is written at an element
unfoldable pub named_scheme : List SchemaDocument → Site → List ℕ → NamedScheme
named_scheme documents writer text = scheme_of_named documents (resolved documents writer kind.EscapeScheme text)
