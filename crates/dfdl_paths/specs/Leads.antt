-- Where paths lead among the elements of a document. 'DFDL Expression Language'.
--
-- The places that a path has reached are a test of places, so each is one of them once, and items are in the order of the document.
use Rattle.std.specs.Prelude.{ℕ, ◌&&◌, ◌||◌, Bool, true, false, nat_eq, List, [], ◌∷◌, length, Option, Some, None}
use Rattle.dfdl_expressions.specs.declared.path.Path.{Path}
use Rattle.dfdl_expressions.specs.declared.path.Step.{Step}
use Rattle.dfdl_expressions.specs.declared.path.Step.TheVariants.{Here, Up, Down}
use Rattle.dfdl_region.specs.declared.node.Node.{Node}
use Rattle.dfdl_paths.specs.declared.place.Place.{Place}
use Rattle.dfdl_paths.specs.declared.place.Place.TheVariants.{Above, At, Inside}
use Rattle.dfdl_paths.specs.declared.place.Start.{Start}
use Rattle.dfdl_paths.specs.declared.place.Start.TheVariants as start
use Rattle.dfdl_paths.specs.Elements.{around, is_named, is_place, place_among}
use Rattle.dfdl_paths.specs.Numbers.{some_below, those_below}

-- where a path begins: an absolute one above the root element; a relative one at the element that has the expression, or, of an
-- expression on a group, at a place right inside of the element that has the group
abbrev pub begins : Start → Bool → Place
begins from true = Above
begins (start.At number) false = At number
begins (start.Inside number) false = Inside number

-- one place, or none
abbrev pub only_at : Option Place → Place → Bool
only_at None place = false
only_at (Some one) place = is_place one place

-- an element whose place right inside is reached
abbrev pub holds_reached : (Place → Bool) → Place → Bool
holds_reached reached Above = false
holds_reached reached (At number) = reached (Inside number)
holds_reached reached (Inside number) = false

-- `..`: where a place that is reached stands
abbrev pub up : List Node → (Place → Bool) → Place → Bool
up nodes reached place =
    holds_reached reached place || some_below (λ number. is_place (around nodes number) place && reached (At number)) (length nodes)

-- a name: each element of this name that stands at a place that is reached
abbrev pub down : List (Option ℕ) → List Node → ℕ → (Place → Bool) → Place → Bool
down numbers nodes name reached Above = false
down numbers nodes name reached (At number) = is_named numbers nodes name number && reached (around nodes number)
down numbers nodes name reached (Inside number) = false

-- the place that an element has among those of its name is this one
abbrev pub has_place : List (Option ℕ) → List Node → ℕ → ℕ → Place → Bool
has_place numbers nodes name index Above = false
has_place numbers nodes name index (At number) = nat_eq (place_among numbers nodes name number) index
has_place numbers nodes name index (Inside number) = false

-- what one step reaches, with the place that its index names, if it has one
abbrev pub after : List (Option ℕ) → List Node → Step → ℕ → (Place → Bool) → Place → Bool
after numbers nodes Here index reached place = reached place
after numbers nodes Up index reached place = up nodes reached place
after numbers nodes (Down name false) index reached place = down numbers nodes name reached place
after numbers nodes (Down name true) index reached place =
    down numbers nodes name reached place && has_place numbers nodes name index place

-- the next of the places that indexes name; 0, which no element has, where there is none
abbrev pub next_index : List ℕ → ℕ
next_index [] = 0
next_index (index ∷ rest) = index

abbrev pub without_first : List ℕ → List ℕ
without_first [] = []
without_first (index ∷ rest) = rest

-- those that are left behind a step
abbrev pub left_behind : Step → List ℕ → List ℕ
left_behind Here indexes = indexes
left_behind Up indexes = indexes
left_behind (Down name false) indexes = indexes
left_behind (Down name true) indexes = without_first indexes

-- what steps reach, one after the other
abbrev pub follow : List (Option ℕ) → List Node → (Place → Bool) → List Step → List ℕ → Place → Bool
follow numbers nodes reached [] indexes = reached
follow numbers nodes reached (step ∷ steps) indexes =
    follow numbers nodes (after numbers nodes step (next_index indexes) reached) steps (left_behind step indexes)

-- a path leads to the element of a number
abbrev pub leads : List (Option ℕ) → List Node → Start → Path → List ℕ → ℕ → Bool
leads numbers nodes from path indexes number =
    follow numbers nodes (only_at (Some (begins from path.absolute))) path.steps indexes (At number)

-- the elements that a path leads to, by their numbers, in the order in which they began
abbrev pub items : List (Option ℕ) → List Node → Start → Path → List ℕ → List ℕ
items numbers nodes from path indexes = those_below (leads numbers nodes from path indexes) (length nodes)
