-- An environment in memory: numbers that are the items of one array, and one variable.
use Rattle.std.specs.Prelude.{ℕ, ◌-◌, ◌==◌, Bool, true, false, if◌then◌else◌, List, [], ◌∷◌, length, Option, Some, None, ℤ, pos}
use Rattle.std.specs.List.{slice_get}
use Rattle.dfdl_value.specs.declared.value.Value.TheVariants.{Int}
use Rattle.dfdl_expression_eval.specs.Asks.{Query, Item, Count, Length, Variable, OccursIndex}
use Rattle.dfdl_expression_eval.specs.declared.env.Evaluated.{Evaluated}
use Rattle.dfdl_expression_eval.specs.declared.env.Evaluated.TheVariants.{Known, Wait, Fault}

-- a number that is there, or the fault that it isn't
abbrev pub number_or : ℕ → Option ℤ → Evaluated
number_or cause None = Fault cause
number_or cause (Some number) = Known (Int number)

-- the only item: there may be none (E1) or several (E2)
abbrev pub only_item : List ℤ → Evaluated
only_item [] = Fault 1
only_item (number ∷ []) = Known (Int number)
only_item (number ∷ other ∷ others) = Fault 2

-- the item at a place
abbrev pub item_at : List ℤ → ℕ → Evaluated
item_at items place = if place == 0 then Fault 1 else number_or 1 (slice_get items (place - 1))

-- the item that a path with these places leads to
abbrev pub item_for : List ℤ → List ℕ → Evaluated
item_for items [] = only_item items
item_for items (place ∷ places) = item_at items place

-- the length of an item that is there
abbrev pub length_for : ℤ → Evaluated → Evaluated
length_for bits (Known value) = Known (Int bits)
length_for bits (Wait unknown) = Wait unknown
length_for bits (Fault cause) = Fault cause

-- as long as more items may come, it waits for the first unknown
abbrev pub once_complete : Bool → Evaluated → Evaluated
once_complete true answer = answer
once_complete false answer = Wait 0

-- what each question is answered
abbrev pub listed : List ℤ → Bool → ℤ → Option ℤ → Query → Evaluated
listed items complete bits variable (Item path places) = once_complete complete (item_for items places)
listed items complete bits variable (Count path places) = once_complete complete (Known (Int (pos (length items))))
listed items complete bits variable (Length path places extent) = once_complete complete (length_for bits (item_for items places))
listed items complete bits variable (Variable number) = number_or 7 variable
listed items complete bits variable OccursIndex = Known (Int (pos 1))
