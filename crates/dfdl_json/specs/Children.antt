-- The elements that a schema declares: their names, and which of them stand in one another.
use Rattle.std.specs.Prelude.{ℕ, ◌-◌, List, [], ◌∷◌, length, map, Option, Some, None, slice_get}
use Rattle.std.specs.List.{flat_map}
use Rattle.dfdl_terms.specs.declared.slots.Slot.{Slot}
use Rattle.dfdl_terms.specs.declared.keys.Key.{Key}
use Rattle.dfdl_terms.specs.declared.row.Row.{Row}
use Rattle.dfdl_terms.specs.declared.row.Row.TheVariants.{Leaf, Elem, Group, Skip, Align, Initiator, Terminator, Separator, Scope, Boxed, PrefixedLeaf, PrefixedBox, MeasuredLeaf, MeasuredBox, Repeat, Counted, Optional, Choice, Dispatch, Statement, Concluded, Hidden, Spanned, Instance, Separated}
use Rattle.dfdl_terms.specs.Rows.{Table}
use Rattle.dfdl_json.specs.ByRows.{by_rows}

-- the row of the root element
abbrev pub root_row : Table → ℕ
root_row t = length t.rows - 1

-- the local name of a row's element; other rows have none
abbrev pub name_in : Option Row → List ℕ
name_in (Some (Elem name simple tried behind body)) = name
name_in _ = []

-- the local name of the element of this row
abbrev pub name_of : Table → ℕ → List ℕ
name_of t row = name_in (slice_get t.rows row)

-- the rows of slots
abbrev pub bodies_of : List Slot → List ℕ
bodies_of slots = map (λ slot. slot.body) slots

-- the rows of keys
abbrev pub keyed : List Key → List ℕ
keyed keys = map (λ key. key.body) keys

-- The elements that a row declares, where `inside` has those of the rows below it: an element declares itself, a
-- group what its children declare, a choice what its branches do, also by keys, slots what their rows do, and a scope, a box, with or without
-- a prefix or a measure, a hidden row, a content without a box, an open instance, a repetition, tried, counted or neither, and a row behind
-- which statements are done what its body declares. No other row declares anything.
abbrev pub declared_by : (ℕ → List ℕ) → ℕ → Option Row → List ℕ
declared_by inside row (Some (Elem name simple tried behind body)) = row ∷ []
declared_by inside row (Some (Group children)) = flat_map inside children
declared_by inside row (Some (Leaf prim)) = []
declared_by inside row (Some (Skip bits)) = []
declared_by inside row (Some (Align bits)) = []
declared_by inside row (Some (Initiator delimiter)) = []
declared_by inside row (Some (Terminator delimiter separators)) = []
declared_by inside row (Some Separator) = []
declared_by inside row (Some (Scope list body)) = inside body
declared_by inside row (Some (Boxed bits body)) = inside body
declared_by inside row (Some (PrefixedLeaf prefix prim)) = []
declared_by inside row (Some (PrefixedBox prefix body)) = inside body
declared_by inside row (Some (MeasuredLeaf measure prim)) = []
declared_by inside row (Some (MeasuredBox measure body)) = inside body
declared_by inside row (Some (Repeat count body)) = inside body
declared_by inside row (Some (Counted question body)) = inside body
declared_by inside row (Some (Optional most item initiated body)) = inside body
declared_by inside row (Some (Choice branches initiated)) = flat_map inside branches
declared_by inside row (Some (Dispatch question keys)) = flat_map inside (keyed keys)
declared_by inside row (Some (Statement statement)) = []
declared_by inside row (Some (Concluded behind body)) = inside body
declared_by inside row (Some (Hidden body)) = inside body
declared_by inside row (Some (Spanned body)) = inside body
declared_by inside row (Some (Instance statement body)) = inside body
declared_by inside row (Some (Separated policy position initiated slots)) = flat_map inside (bodies_of slots)
declared_by inside row None = []

-- the elements that the content of this row declares, through groups, choices, scopes and boxes, in schema order
abbrev pub elements_in : Table → ℕ → List ℕ
elements_in t row = by_rows declared_by [] t.rows row
