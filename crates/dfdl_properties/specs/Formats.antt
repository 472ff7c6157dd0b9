-- Formats with what they take from the formats that their references lead to ('Property Scoping and
-- DFDL Schema Checking'). A format is a number, and refers to at most one other.
use Rattle.std.specs.Prelude.{ℕ, List, [], ◌∷◌, map, get_or, Option, None, option_to_list}
use Rattle.std.specs.Option.{option_or}
use Rattle.dfdl_order.specs.Folds.{value_by}
use Rattle.dfdl_scope.specs.Scoping.{Given, nothing}

-- which format each one stands on: that to which it refers, if it does
abbrev pub parts_of : List (Option ℕ) → List (List ℕ)
parts_of refers = map option_to_list refers

-- the value in the first of some formats
abbrev pub nearest : List (Option (List ℕ)) → Option (List ℕ)
nearest [] = None
nearest (value ∷ others) = option_or value (nearest others)

-- what the format of a number gives by itself
abbrev pub own_of : List Given → ℕ → Given
own_of own format = get_or own format nothing

-- a format's value of a property: its own, else that of the format that it refers to
abbrev pub joined_step : List Given → List ℕ → ℕ → List (Option (List ℕ)) → Option (List ℕ)
joined_step own name format values = option_or (own_of own format name) (nearest values)

-- what a format gives, by recursion on the references
abbrev pub joined : List Given → List (Option ℕ) → ℕ → Given
joined own refers format name = value_by (parts_of refers) (joined_step own name) None format
