-- Which elements of the documents a component is joined from ('Property Scoping and DFDL Schema
-- Checking').
use Rattle.std.specs.Prelude.{List, [], ◌∷◌, Option, Some, None}
use Rattle.std.specs.Option.{option_and_then}
use Rattle.dfdl_constructs.specs.declared.role.Role.{Role}
use Rattle.dfdl_constructs.specs.declared.role.Role.TheVariants as role
use Rattle.dfdl_documents.specs.Documents.{SchemaDocument}
use Rattle.dfdl_components.specs.declared.kind.ComponentKind.TheVariants as kind
use Rattle.dfdl_components.specs.declared.site.Site.{Site}
use Rattle.dfdl_components.specs.Sites.{role_of}
use Rattle.dfdl_chains.specs.Declarations.{declaration, part_inside, referred}
use Rattle.dfdl_chains.specs.Derivation.{simple_types_of}

-- the sequence or choice of the group that a group reference names
abbrev pub group_content : List SchemaDocument → Site → Option Site
group_content documents own = option_and_then (part_inside documents) (referred documents own kind.Group)

-- one, or none
abbrev pub listed : Option Site → List Site
listed None = []
listed (Some own) = own ∷ []

-- an element's declaration and the simple types that its type comes of
abbrev pub declaration_sites : List SchemaDocument → Site → List Site
declaration_sites documents own = declaration documents own ∷ simple_types_of documents own

-- the elements that a component is joined from, by its role
abbrev pub chain_by : List SchemaDocument → Site → Role → List Site
chain_by documents own role.GlobalElement = declaration_sites documents own
chain_by documents own role.LocalElement = declaration_sites documents own
chain_by documents own role.ElementReference = own ∷ declaration_sites documents own
chain_by documents own role.GroupReference = own ∷ listed (group_content documents own)
chain_by documents own _ = own ∷ []

-- the elements that a component is joined from: a reference and then what it names, an element and then
-- the simple types that its type comes of; any other component is itself alone
unfoldable pub chain_sites : List SchemaDocument → Site → List Site
chain_sites documents own = chain_by documents own (role_of documents own)
