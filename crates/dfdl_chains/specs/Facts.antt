-- What a component states besides its properties. Of a reference and its declaration the reference says
-- how often the element occurs, and the declaration whether it may be nil and which default it has ('DFDL
-- Schema Component Model').
use Rattle.std.specs.Prelude.{ℕ, List, ◌&&◌, ◌||◌, if◌then◌else◌, Bool, true, false, nat_lt, length, Option, Some, None, codes, bytes_eq}
use Rattle.std.specs.List.{list_any}
use Rattle.dfdl_markup.specs.Trees.{Node, node_at}
use Rattle.dfdl_constructs.specs.declared.role.Role.{Role}
use Rattle.dfdl_constructs.specs.declared.role.Role.TheVariants as role
use Rattle.dfdl_constructs.specs.Roles.{role_at}
use Rattle.dfdl_constructs.specs.ValuesAllowed.{is_occurring}
use Rattle.dfdl_documents.specs.Documents.{SchemaDocument}
use Rattle.dfdl_components.specs.declared.site.Site.{Site}
use Rattle.dfdl_components.specs.Sites.{nodes_of, role_of}
use Rattle.dfdl_checks.specs.Judged.{FactsJudged}
use Rattle.dfdl_checks.specs.declared.occurring.Bounds.{Bounds}
use Rattle.dfdl_chains.specs.Declarations.{attribute_of, declaration}
use Rattle.dfdl_chains.specs.Chains.{chain_sites}
use Rattle.dfdl_chains.specs.Lengths.{bound_of, length_of}
use Rattle.dfdl_chains.specs.declared.lengths.Bound.TheVariants.{Least, Greatest}
use Rattle.dfdl_chains.specs.Parts.{inside_of, is_none_of}

-- the least number of occurrences, which is 1 where it is absent
abbrev pub least_of : Option (List ℕ) → ℕ
least_of None = 1
least_of (Some digits) = length_of digits

-- the greatest number of occurrences that a text gives, if it is bounded
abbrev pub bounded_by : List ℕ → Option ℕ
bounded_by text = if bytes_eq text (codes "unbounded") then None else Some (length_of text)

-- the greatest number of occurrences, which is 1 where it is absent
abbrev pub most_of : Option (List ℕ) → Option ℕ
most_of None = Some 1
most_of (Some text) = bounded_by text

-- the bounds of what occurs once
abbrev pub once : Bounds
once = record { least = 1; most = Some 1 }

-- the bounds that a component gives
abbrev pub bounds_given : List SchemaDocument → Site → Bounds
bounds_given documents own = record {
  least = least_of (attribute_of documents own (codes "minOccurs"));
  most = most_of (attribute_of documents own (codes "maxOccurs"));
}

-- the bounds of how often the component occurs; a global element has none, and occurs once
abbrev pub bounds_of : List SchemaDocument → Site → Bounds
bounds_of documents own = if is_occurring (role_of documents own) then bounds_given documents own else once

-- a truth value that is true
abbrev pub is_true : Option (List ℕ) → Bool
is_true None = false
is_true (Some text) = bytes_eq text (codes "true") || bytes_eq text (codes "1")

-- the element may be nil
abbrev pub is_nillable : List SchemaDocument → Site → Bool
is_nillable documents own = is_true (attribute_of documents (declaration documents own) (codes "nillable"))

-- the text of the element's default value, if it has one
abbrev pub default_of : List SchemaDocument → Site → Option (List ℕ)
default_of documents own = attribute_of documents (declaration documents own) (codes "default")

-- an element that is declared where it stands
abbrev pub is_local : Role → Bool
is_local role.LocalElement = true
is_local _ = false

-- a newVariableInstance
abbrev pub is_opening : Role → Bool
is_opening role.NewVariableInstance = true
is_opening _ = false

-- an annotation, and the part of one that holds annotations of DFDL's
abbrev pub is_annotation : Role → Bool
is_annotation (role.Annotation at) = true
is_annotation (role.Annotations at) = true
is_annotation _ = false

-- an element of the document is a newVariableInstance
abbrev pub is_opening_at : List Node → ℕ → Bool
is_opening_at nodes element = nat_lt element (length nodes) && is_opening (role_at nodes element)

-- an element of the document is an annotation, or the part of one that holds annotations of DFDL's
abbrev pub is_annotation_at : List Node → ℕ → Bool
is_annotation_at nodes element = nat_lt element (length nodes) && is_annotation (role_at nodes element)

-- a newVariableInstance stands in the annotations of DFDL's at this element
abbrev pub opens_in : List Node → ℕ → Bool
opens_in nodes element =
    is_annotation_at nodes element && list_any (is_opening_at nodes) (node_at nodes element).children

-- a newVariableInstance stands in the annotation
abbrev pub opens_at : List Node → ℕ → Bool
opens_at nodes element =
    is_annotation_at nodes element && list_any (opens_in nodes) (node_at nodes element).children

-- a newVariableInstance stands in the annotations of an element
abbrev pub has_own_openings : List SchemaDocument → Site → Bool
has_own_openings documents own =
    list_any (opens_at (nodes_of documents own.document))
    (node_at (nodes_of documents own.document) own.element).children

-- what a component states besides its properties, tests and settings
unfoldable pub facts_at : List SchemaDocument → Site → FactsJudged
facts_at documents own = record {
  bounds = bounds_of documents own;
  is_nillable = is_nillable documents own;
  default = default_of documents own;
  opens_instances = list_any (has_own_openings documents) (chain_sites documents own);
  is_local = is_local (role_of documents own);
  is_empty = is_none_of (inside_of documents own);
  min_length = bound_of Least documents own;
  max_length = bound_of Greatest documents own;
}
