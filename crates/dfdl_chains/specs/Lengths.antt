-- The least and the greatest length of an element's values: that of the nearest restriction with the facet minLength, and of the nearest
-- one with the facet maxLength ('DFDL Schema Component Model', 'XML Schema Part 2: Datatypes' on minLength and maxLength).
use Rattle.std.specs.Prelude.{ℕ, ◌-◌, ◌^◌, ◌&&◌, Bool, true, false, nat_lt, min, List, [], ◌∷◌, length, Option, Some, None, codes}
use Rattle.std.specs.List.{find}
use Rattle.std.specs.Option.{option_and_then}
use Rattle.dfdl_markup.specs.Trees.{Node, node_at}
use Rattle.dfdl_constructs.specs.declared.role.Role.{Role}
use Rattle.dfdl_constructs.specs.declared.role.Role.TheVariants as role
use Rattle.dfdl_constructs.specs.Roles.{role_at}
use Rattle.dfdl_constructs.specs.Values.{number}
use Rattle.dfdl_documents.specs.Documents.{SchemaDocument}
use Rattle.dfdl_components.specs.declared.site.Site.{Site}
use Rattle.dfdl_components.specs.Globals.{site}
use Rattle.dfdl_components.specs.Searching.{or_else}
use Rattle.dfdl_components.specs.Sites.{nodes_of, role_of}
use Rattle.dfdl_chains.specs.declared.lengths.Bound.{Bound}
use Rattle.dfdl_chains.specs.declared.lengths.Bound.TheVariants.{Least, Greatest}
use Rattle.dfdl_chains.specs.Declarations.{attribute_of, part_inside}
use Rattle.dfdl_chains.specs.Derivation.{simple_types_of}

-- the length or other number that digits stand for; past 64 bits the greatest number of these
abbrev pub length_of : List ℕ → ℕ
length_of digits = min (number digits) (2 ^ 64 - 1)

-- the length that an attribute gives, where there is one
abbrev pub length_if : Option (List ℕ) → Option ℕ
length_if None = None
length_if (Some digits) = Some (length_of digits)

-- the facet of a bound: minLength or maxLength
abbrev pub is_facet : Bound → Role → Bool
is_facet Least role.MinLength = true
is_facet Greatest role.MaxLength = true
is_facet bound _ = false

-- an element of the document is the facet of a bound
abbrev pub is_facet_at : Bound → List Node → ℕ → Bool
is_facet_at bound nodes element = nat_lt element (length nodes) && is_facet bound (role_at nodes element)

-- the value of a facet of a restriction, where it has the facet
abbrev pub value_if : List SchemaDocument → ℕ → Option ℕ → Option (List ℕ)
value_if documents document None = None
value_if documents document (Some facet) = attribute_of documents (site document facet) (codes "value")

-- the bound of lengths that a restriction gives: the value of its first facet of it
abbrev pub restricted_length : Bound → List SchemaDocument → Site → Option ℕ
restricted_length bound documents own =
    length_if (value_if documents own.document
    (find (is_facet_at bound (nodes_of documents own.document))
    (node_at (nodes_of documents own.document) own.element).children))

-- the bound of lengths that a simple type gives by its own restriction
abbrev pub own_length : Bound → List SchemaDocument → Site → Option ℕ
own_length bound documents own = option_and_then (restricted_length bound documents) (part_inside documents own)

-- the bound of lengths of the first of some simple types that gives one
abbrev pub nearest_length : Bound → List SchemaDocument → List Site → Option ℕ
nearest_length bound documents [] = None
nearest_length bound documents (own ∷ bases) = or_else (own_length bound documents own) (nearest_length bound documents bases)

-- the simple types that the type of a component comes of, the nearest first; only elements have a type
abbrev pub types_by : List SchemaDocument → Site → Role → List Site
types_by documents own role.GlobalElement = simple_types_of documents own
types_by documents own role.LocalElement = simple_types_of documents own
types_by documents own role.ElementReference = simple_types_of documents own
types_by documents own _ = []

-- a bound of the lengths of an element's values, where its type has it
unfoldable pub bound_of : Bound → List SchemaDocument → Site → Option ℕ
bound_of bound documents own = nearest_length bound documents (types_by documents own (role_of documents own))
