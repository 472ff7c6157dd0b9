-- The types of variables ('Syntax of DFDL Annotation Elements', on defineVariable).
use Rattle.std.specs.Prelude.{ℕ, List, Option, Some, None, codes}
use Rattle.dfdl_forms.specs.declared.simple.Simple.{Simple}
use Rattle.dfdl_forms.specs.declared.simple.Simple.TheVariants as simple
use Rattle.dfdl_documents.specs.Documents.{SchemaDocument}
use Rattle.dfdl_components.specs.declared.site.Site.{Site}
use Rattle.dfdl_chains.specs.Declarations.{attribute_of}
use Rattle.dfdl_chains.specs.Prefixes.{NamedType, prefix_type}

-- the simple type that a named type comes to, if that is carried
abbrev pub simple_of : Option NamedType → Option Simple
simple_of None = None
simple_of (Some named) = named.simple

-- the simple type that a text names at an element, if that is carried; where there is no text it is string
abbrev pub type_by : List SchemaDocument → Site → Option (List ℕ) → Option Simple
type_by documents own None = Some simple.String
type_by documents own (Some text) = simple_of (prefix_type documents own text)

-- the type of the variable that an element defines: that which its attribute `type` names
abbrev pub type_at : List SchemaDocument → Site → Option Simple
type_at documents own = type_by documents own (attribute_of documents own (codes "type"))
