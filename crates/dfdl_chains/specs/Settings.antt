-- The elements that open instances of variables at a component, and those that set variables there, each in the order of its chain ('Syntax of
-- DFDL Annotation Elements', on newVariableInstance and setVariable).
use Rattle.std.specs.Prelude.{ℕ, List, [], ◌∷◌, ◌++◌, ◌&&◌, Bool, true, false, nat_lt, length, if◌then◌else◌}
use Rattle.std.specs.List.{flat_map}
use Rattle.dfdl_markup.specs.Trees.{Node, node_at}
use Rattle.dfdl_constructs.specs.declared.role.Role.{Role}
use Rattle.dfdl_constructs.specs.declared.role.Role.TheVariants as role
use Rattle.dfdl_constructs.specs.Roles.{role_at}
use Rattle.dfdl_documents.specs.Documents.{SchemaDocument}
use Rattle.dfdl_components.specs.declared.site.Site.{Site}
use Rattle.dfdl_components.specs.Globals.{site}
use Rattle.dfdl_components.specs.Sites.{IsSite, nodes_of}
use Rattle.dfdl_chains.specs.Chains.{chain_sites}
use Rattle.dfdl_chains.specs.Facts.{is_opening}
use Rattle.dfdl_chains.specs.declared.settings.Setter.{Setter}
use Rattle.dfdl_chains.specs.Tests.{in_annotation}

-- a setVariable
abbrev pub is_setting : Role → Bool
is_setting role.SetVariable = true
is_setting _ = false

-- a newVariableInstance, or a setVariable
abbrev pub is_setter : Bool → Role → Bool
is_setter true role = is_opening role
is_setter false role = is_setting role

-- an element of the document is such
abbrev pub is_setter_at : Bool → List Node → ℕ → Bool
is_setter_at opens nodes element = nat_lt element (length nodes) && is_setter opens (role_at nodes element)

abbrev pub setter : Bool → Site → Setter
setter opens own = record { site = own; opens = opens }

-- it is an element of the documents
abbrev pub IsSetterOf : List SchemaDocument → Setter → Type 0
IsSetterOf documents one = IsSite documents one.site

-- the element, if it is such
abbrev pub setter_if : Bool → List SchemaDocument → ℕ → ℕ → List Setter
setter_if opens documents document element =
    if is_setter_at opens (nodes_of documents document) element then setter opens (site document element) ∷ [] else []

-- those in the annotations of DFDL's at this element
abbrev pub setters_in : Bool → List SchemaDocument → ℕ → ℕ → List Setter
setters_in opens documents document element = in_annotation (setter_if opens documents document) (nodes_of documents document) element

-- those in the annotation
abbrev pub setters_within : Bool → List SchemaDocument → ℕ → ℕ → List Setter
setters_within opens documents document element = in_annotation (setters_in opens documents document) (nodes_of documents document) element

-- those in the annotations of an element
abbrev pub own_setters : Bool → List SchemaDocument → Site → List Setter
own_setters opens documents own =
    flat_map (setters_within opens documents own.document) (node_at (nodes_of documents own.document) own.element).children

-- those of a component: what opens instances stands before what sets variables
unfoldable pub settings_at : List SchemaDocument → Site → List Setter
settings_at documents own =
    flat_map (own_setters true documents) (chain_sites documents own) ++ flat_map (own_setters false documents) (chain_sites documents own)
