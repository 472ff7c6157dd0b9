-- What the attributes of an element name, and which element a reference stands for ('DFDL Schema
-- Component Model').
use Rattle.std.specs.Prelude.{ℕ, List, Option, Some, None, codes, option_map}
use Rattle.dfdl_constructs.specs.declared.role.Role.{Role}
use Rattle.dfdl_constructs.specs.declared.role.Role.TheVariants as role
use Rattle.dfdl_constructs.specs.Elements.{plain_of}
use Rattle.dfdl_constructs.specs.Roles.{single_at}
use Rattle.dfdl_documents.specs.Documents.{SchemaDocument}
use Rattle.dfdl_components.specs.declared.kind.ComponentKind.{ComponentKind}
use Rattle.dfdl_components.specs.declared.kind.ComponentKind.TheVariants as kind
use Rattle.dfdl_components.specs.declared.named.Named.{Named}
use Rattle.dfdl_components.specs.declared.named.Named.TheVariants.{Component, Carried, NotCarried}
use Rattle.dfdl_components.specs.declared.site.Site.{Site}
use Rattle.dfdl_components.specs.Sites.{nodes_of, role_of}
use Rattle.dfdl_components.specs.Globals.{site}
use Rattle.dfdl_components.specs.Naming.{resolved}

-- the value of an attribute of no namespace
abbrev pub attribute_of : List SchemaDocument → Site → List ℕ → Option (List ℕ)
attribute_of documents own name = plain_of (nodes_of documents own.document) own.element name

-- what a name names at an element, where there is one
abbrev pub named_if : List SchemaDocument → Site → ComponentKind → Option (List ℕ) → Option Named
named_if documents own kind None = None
named_if documents own kind (Some text) = resolved documents own kind text

-- the global component, where that is what is named
abbrev pub component_of : Option Named → Option Site
component_of None = None
component_of (Some (Component own)) = Some own
component_of (Some Carried) = None
component_of (Some NotCarried) = None

-- the global component of a kind that an element's attribute `ref` names
abbrev pub referred : List SchemaDocument → Site → ComponentKind → Option Site
referred documents own kind = component_of (named_if documents own kind (attribute_of documents own (codes "ref")))

-- the component, where there is one, else the element itself
abbrev pub or_itself : Site → Option Site → Site
or_itself own None = own
or_itself own (Some other) = other

-- for an element reference the global element that it names, for each other element itself
abbrev pub declaration_by : List SchemaDocument → Site → Role → Site
declaration_by documents own role.ElementReference = or_itself own (referred documents own kind.Element)
declaration_by documents own _ = own

-- the declaration of an element
unfoldable pub declaration : List SchemaDocument → Site → Site
declaration documents own = declaration_by documents own (role_of documents own)

-- the part that stands only once in an element: its type, the restriction of a simple type, the group
-- of a complex type or of a global group
abbrev pub part_inside : List SchemaDocument → Site → Option Site
part_inside documents own =
    option_map (site own.document) (single_at (nodes_of documents own.document) own.element)
