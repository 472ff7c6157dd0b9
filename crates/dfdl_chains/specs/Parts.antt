-- What a component consists of ('DFDL Schema Component Model').
use Rattle.std.specs.Prelude.{ℕ, List, [], ◌∷◌, ◌&&◌, Bool, true, false, nat_lt, length, Option, Some, None, if◌then◌else◌}
use Rattle.std.specs.List.{flat_map}
use Rattle.dfdl_markup.specs.Trees.{node_at}
use Rattle.dfdl_constructs.specs.declared.role.Role.{Role}
use Rattle.dfdl_constructs.specs.declared.role.Role.TheVariants as role
use Rattle.dfdl_documents.specs.Documents.{SchemaDocument}
use Rattle.dfdl_components.specs.declared.site.Site.{Site}
use Rattle.dfdl_components.specs.Sites.{nodes_of, role_of}
use Rattle.dfdl_components.specs.Globals.{site}
use Rattle.dfdl_chains.specs.declared.typed.Typed.{Typed}
use Rattle.dfdl_chains.specs.declared.typed.Typed.TheVariants.{Carried, NotCarried, Defined}
use Rattle.dfdl_chains.specs.Declarations.{or_itself, part_inside}
use Rattle.dfdl_chains.specs.Derivation.{type_of}
use Rattle.dfdl_chains.specs.Chains.{group_content}

-- what can stand in a sequence or choice
abbrev pub is_particle : Role → Bool
is_particle role.LocalElement = true
is_particle role.ElementReference = true
is_particle role.Sequence = true
is_particle role.Choice = true
is_particle role.GroupReference = true
is_particle _ = false

-- a component: what can stand in a group, and a global element
abbrev pub is_component : Role → Bool
is_component role.GlobalElement = true
is_component role = is_particle role

-- the document has such an element, and it can stand in a group
abbrev pub is_particle_at : List SchemaDocument → Site → Bool
is_particle_at documents own =
    nat_lt own.element (length (nodes_of documents own.document)) && is_particle (role_of documents own)

-- the element, if it can stand in a group
abbrev pub if_particle : List SchemaDocument → ℕ → ℕ → List Site
if_particle documents document element =
    if is_particle_at documents (site document element) then site document element ∷ [] else []

-- the elements and groups that stand in a sequence or choice, in schema order
abbrev pub particles : List SchemaDocument → Site → List Site
particles documents own =
    flat_map (if_particle documents own.document) (node_at (nodes_of documents own.document) own.element).children

-- those of a sequence or choice, where there is one
abbrev pub particles_if : List SchemaDocument → Option Site → List Site
particles_if documents None = []
particles_if documents (Some own) = particles documents own

-- the content of a complex type: its sequence, choice or group reference; a complex type without a
-- group is its own content, an empty sequence without properties
abbrev pub content_of : List SchemaDocument → Site → Site
content_of documents own = or_itself own (part_inside documents own)

-- the content of an element of this type
abbrev pub contents : List SchemaDocument → Typed → List Site
contents documents (Carried simple) = []
contents documents NotCarried = []
contents documents (Defined own) = content_of documents own ∷ []

-- what a component consists of, by its role
abbrev pub parts_by : List SchemaDocument → Site → Role → List Site
parts_by documents own role.GlobalElement = contents documents (type_of documents own)
parts_by documents own role.LocalElement = contents documents (type_of documents own)
parts_by documents own role.ElementReference = contents documents (type_of documents own)
parts_by documents own role.Sequence = particles documents own
parts_by documents own role.Choice = particles documents own
parts_by documents own role.GroupReference = particles_if documents (group_content documents own)
parts_by documents own _ = []

-- what a component consists of, in schema order: an element of its content, a sequence or choice of what
-- stands in it, and a group reference of what stands in the sequence or choice of the group that it names.
-- Everything else consists of nothing
unfoldable pub parts_at : List SchemaDocument → Site → List Site
parts_at documents own = parts_by documents own (role_of documents own)

-- what stands in a group, by its role; of a reference, in the group that it names
abbrev pub inside_by : List SchemaDocument → Site → Role → List Site
inside_by documents own role.Sequence = particles documents own
inside_by documents own role.Choice = particles documents own
inside_by documents own role.GroupReference = particles_if documents (group_content documents own)
inside_by documents own _ = []

-- what stands in a group
abbrev pub inside_of : List SchemaDocument → Site → List Site
inside_of documents own = inside_by documents own (role_of documents own)

-- there is nothing
abbrev pub is_none_of : List Site → Bool
is_none_of [] = true
is_none_of (own ∷ others) = false
