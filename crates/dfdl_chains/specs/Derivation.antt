-- The types of elements, and how simple types come of one another ('DFDL Schema Component Model',
-- 'XML Schema Part 1: Structures' on restriction).
use Rattle.std.specs.Prelude.{ℕ, zero, suc, List, [], ◌∷◌, Bool, true, false, Option, Some, None, codes, if◌then◌else◌}
use Rattle.dfdl_forms.specs.declared.simple.Simple.{Simple}
use Rattle.dfdl_constructs.specs.declared.role.Role.{Role}
use Rattle.dfdl_constructs.specs.declared.role.Role.TheVariants as role
use Rattle.dfdl_constructs.specs.Values.{local_in}
use Rattle.dfdl_documents.specs.Documents.{SchemaDocument}
use Rattle.dfdl_components.specs.declared.kind.ComponentKind.TheVariants as kind
use Rattle.dfdl_components.specs.declared.named.Named.{Named}
use Rattle.dfdl_components.specs.declared.named.Named.TheVariants as named
use Rattle.dfdl_components.specs.declared.site.Site.{Site}
use Rattle.dfdl_components.specs.Sites.{role_of}
use Rattle.dfdl_components.specs.Naming.{resolved}
use Rattle.dfdl_components.specs.Recursion.{count_of}
use Rattle.dfdl_chains.specs.declared.typed.Typed.{Typed}
use Rattle.dfdl_chains.specs.declared.typed.Typed.TheVariants.{Carried, NotCarried, Defined}
use Rattle.dfdl_chains.specs.Types.{simple_named}
use Rattle.dfdl_chains.specs.Declarations.{attribute_of, declaration, part_inside}

-- a simple type of XML Schema's
abbrev pub built_in : Option Simple → Typed
built_in None = NotCarried
built_in (Some simple) = Carried simple

-- the type that is named by a text; a name of nothing counts as that of a type that is not carried
abbrev pub typed_by : List ℕ → Option Named → Typed
typed_by text None = NotCarried
typed_by text (Some (named.Component own)) = Defined own
typed_by text (Some named.Carried) = built_in (simple_named (local_in text))
typed_by text (Some named.NotCarried) = NotCarried

-- the type that is named at an element by a text, where there is one
abbrev pub type_named : List SchemaDocument → Site → Option (List ℕ) → Typed
type_named documents own None = NotCarried
type_named documents own (Some text) = typed_by text (resolved documents own kind.Type text)

-- the type that stands in an element, else another
abbrev pub inside_or : Option Site → Typed → Typed
inside_or None otherwise = otherwise
inside_or (Some inside) otherwise = Defined inside

-- the type that an element gives: that which stands in it, else that which its attribute `type` names
abbrev pub given_type : List SchemaDocument → Site → Typed
given_type documents own =
    inside_or (part_inside documents own) (type_named documents own (attribute_of documents own (codes "type")))

-- the type that a restriction names, where there is one
abbrev pub base_by : List SchemaDocument → Option Site → Typed
base_by documents None = NotCarried
base_by documents (Some restriction) =
    type_named documents restriction (attribute_of documents restriction (codes "base"))

-- the type that a simple type restricts
abbrev pub base_type : List SchemaDocument → Site → Typed
base_type documents own = base_by documents (part_inside documents own)

-- a simple type that a document defines
abbrev pub is_simple_type : Role → Bool
is_simple_type role.GlobalSimpleType = true
is_simple_type role.LocalSimpleType = true
is_simple_type _ = false

-- the simple type, where a document defines it
abbrev pub simple_type : List SchemaDocument → Typed → Option Site
simple_type documents (Carried simple) = None
simple_type documents NotCarried = None
simple_type documents (Defined own) = if is_simple_type (role_of documents own) then Some own else None

-- a simple type and those that it comes of
abbrev pub with_bases : List SchemaDocument → (Typed → List Site) → Option Site → List Site
with_bases documents bases None = []
with_bases documents bases (Some own) = own ∷ bases (base_type documents own)

-- the simple types that documents define, from a type down to the last that it comes of, at most so many
unfoldable pub derived_within : ℕ → List SchemaDocument → Typed → List Site
derived_within zero documents typed = []
derived_within (suc n) documents typed = with_bases documents (derived_within n documents) (simple_type documents typed)

-- a type, or for a simple type that a document defines what its base comes to
abbrev pub or_base : List SchemaDocument → (Typed → Typed) → Typed → Option Site → Typed
or_base documents comes typed None = typed
or_base documents comes typed (Some own) = comes (base_type documents own)

-- what a type comes to after at most so many restrictions: a simple type of XML Schema's, or a complex
-- type
unfoldable pub primitive_within : ℕ → List SchemaDocument → Typed → Typed
primitive_within zero documents typed = typed
primitive_within (suc n) documents typed =
    or_base documents (primitive_within n documents) typed (simple_type documents typed)

-- the type of an element, a reference having that of its declaration: a simple type of XML Schema's, or
-- a complex type. No type comes of itself, so there are less restrictions than elements
unfoldable pub type_of : List SchemaDocument → Site → Typed
type_of documents own =
    primitive_within (count_of documents) documents (given_type documents (declaration documents own))

-- the simple types that an element's type comes of, as far as documents define them, the nearest first
unfoldable pub simple_types_of : List SchemaDocument → Site → List Site
simple_types_of documents own =
    derived_within (count_of documents) documents (given_type documents (declaration documents own))
