-- The elements of a document as the steps of paths see them: their local names by numbers, and where each stands.
use Rattle.std.specs.Prelude.{ℕ, suc, ◌&&◌, Bool, true, false, nat_eq, nat_lt, if◌then◌else◌, List, Option, Some, None, slice_get, slice_index_or}
use Rattle.dfdl_region.specs.declared.node.Node.{Node}
use Rattle.dfdl_paths.specs.declared.place.Place.{Place}
use Rattle.dfdl_paths.specs.declared.place.Place.TheVariants.{Above, At, Inside}
use Rattle.dfdl_paths.specs.Numbers.{count_below}

-- the number of the name of an element
abbrev pub named_by : List (Option ℕ) → Option Node → Option ℕ
named_by numbers None = None
named_by numbers (Some node) = slice_index_or numbers node.element None

abbrev pub is_number : Option ℕ → ℕ → Bool
is_number None name = false
is_number (Some number) name = nat_eq number name

-- the element of a number has the name of a number
abbrev pub is_named : List (Option ℕ) → List Node → ℕ → ℕ → Bool
is_named numbers nodes name number = is_number (named_by numbers (slice_get nodes number)) name

-- where an element stands: in the one before it that is its parent. None is before the root element, which is its own parent: it
-- stands at the place above all elements
abbrev pub around_of : ℕ → Option Node → Place
around_of number None = Above
around_of number (Some node) = if nat_lt node.parent number then At node.parent else Above

abbrev pub around : List Node → ℕ → Place
around nodes number = around_of number (slice_get nodes number)

-- two places are the same
abbrev pub is_place : Place → Place → Bool
is_place Above Above = true
is_place (At number) (At other) = nat_eq number other
is_place (Inside number) (Inside other) = nat_eq number other
is_place _ _ = false

-- an element of this name that stands at this place
abbrev pub is_child : List (Option ℕ) → List Node → ℕ → Place → ℕ → Bool
is_child numbers nodes name place number = is_named numbers nodes name number && is_place place (around nodes number)

-- the place of an element, counted from 1, among those of a name that stand where it stands
abbrev pub place_among : List (Option ℕ) → List Node → ℕ → ℕ → ℕ
place_among numbers nodes name number = count_below (is_child numbers nodes name (around nodes number)) (suc number)

-- two elements are of the same row
abbrev pub same_row : Option Node → Option Node → Bool
same_row (Some one) (Some other) = nat_eq one.element other.element
same_row _ _ = false

-- an element is of the same row as another, and stands where that one stands
abbrev pub stand_together : List Node → ℕ → ℕ → Bool
stand_together nodes number other =
    same_row (slice_get nodes number) (slice_get nodes other) && is_place (around nodes number) (around nodes other)

-- the place of an item in its array, counted from 1
abbrev pub place_of : List Node → ℕ → ℕ
place_of nodes number = count_below (stand_together nodes number) (suc number)
