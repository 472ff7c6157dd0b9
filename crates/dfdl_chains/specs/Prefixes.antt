-- The type of a length prefix, by its name ('Lengths', on prefixLengthType).
use Rattle.std.specs.Prelude.{ℕ, List, Option, Some, None, option_map}
use Rattle.dfdl_forms.specs.declared.simple.Simple.{Simple}
use Rattle.dfdl_documents.specs.Documents.{SchemaDocument}
use Rattle.dfdl_components.specs.declared.kind.ComponentKind.TheVariants as kind
use Rattle.dfdl_components.specs.declared.named.Named.{Named}
use Rattle.dfdl_components.specs.declared.site.Site.{Site}
use Rattle.dfdl_components.specs.Naming.{resolved}
use Rattle.dfdl_components.specs.Recursion.{count_of}
use Rattle.dfdl_chains.specs.Derivation.{derived_within, primitive_within, typed_by}
use Rattle.dfdl_chains.specs.declared.typed.Typed.{Typed}
use Rattle.dfdl_chains.specs.declared.typed.Typed.TheVariants.{Carried, NotCarried, Defined}

-- the simple type of XML Schema's, where it is carried
abbrev pub carried_by : Typed → Option Simple
carried_by (Carried simple) = Some simple
carried_by NotCarried = None
carried_by (Defined own) = None

-- a type that is named: the simple type that it comes to, if that is carried, and the simple types that it comes of, as far as
-- documents define them, itself first
pub record NamedType : Type 0 where
  pub simple : Option Simple
  pub sites : List Site

-- the same of a type
abbrev pub named_type : List SchemaDocument → Typed → NamedType
named_type documents typed = record {
  simple = carried_by (primitive_within (count_of documents) documents typed);
  sites = derived_within (count_of documents) documents typed;
}

-- the type that is named by a text
abbrev pub type_by_name : List SchemaDocument → List ℕ → Named → NamedType
type_by_name documents text named = named_type documents (typed_by text (Some named))

-- the type that a text names which is written at an element, if it names one
unfoldable pub prefix_type : List SchemaDocument → Site → List ℕ → Option NamedType
prefix_type documents writer text = option_map (type_by_name documents text) (resolved documents writer kind.Type text)
