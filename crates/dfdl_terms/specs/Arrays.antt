-- Arrays: which elements are their items.
use Rattle.std.specs.Prelude.{◌≡◌, ◌&&◌, ℕ, zero, suc, length, Bool, false, nat_eq, List, [], ◌∷◌, Option, Some, slice_get, slice_index_or}
use Rattle.std.specs.List.{list_any}
use Rattle.dfdl_terms.specs.declared.row.Row.{Row}
use Rattle.dfdl_terms.specs.declared.slots.Slot.{Slot}
use Rattle.dfdl_terms.specs.declared.row.Row.TheVariants.{Group, Repeat, Counted, Optional, Separated}

-- the children of a group; other rows have none
abbrev pub children_in : Option Row → List ℕ
children_in (Some (Group children)) = children
children_in _ = []

-- the row of this number is that of a slot whose occurrences are items
abbrev pub is_item_in : ℕ → Slot → Bool
is_item_in element slot = slot.is_item && nat_eq element slot.body

-- The row of this number is the one that a row repeats, or a child of the group that it repeats. What an expression counts is an item. A row
-- whose times are tried says itself whether what it repeats is an item, and so does a slot.
abbrev pub is_item_of : List Row → ℕ → Row → Bool
is_item_of rows element (Repeat count body) = list_any (nat_eq element) (body ∷ children_in (slice_get rows body))
is_item_of rows element (Counted question body) = nat_eq element body
is_item_of rows element (Optional most item initiated body) = item && nat_eq element body
is_item_of rows element (Separated policy position initiated slots) = list_any (is_item_in element) slots
is_item_of rows element _ = false

-- the elements of the row of this number are items of an array ('Arrays and Optional Elements')
abbrev pub is_item : List Row → ℕ → Bool
is_item rows element = list_any (is_item_of rows element) rows

-- the row of this number is marked
abbrev pub is_marked : List Bool → ℕ → Bool
is_marked marks row = slice_index_or marks row false

-- the rows that are marked are those of items
abbrev pub MarksItems : List Row → List Bool → Type 0
MarksItems rows marks = (row : ℕ) → is_marked marks row ≡ is_item rows row

-- whether those of the rows from a number on are, for so many
unfoldable pub item_marks_from : List Row → ℕ → ℕ → List Bool
item_marks_from rows first zero = []
item_marks_from rows first (suc count) = is_item rows first ∷ item_marks_from rows (suc first) count

-- whether those of each row are
abbrev pub item_marks : List Row → List Bool
item_marks rows = item_marks_from rows 0 (length rows)
