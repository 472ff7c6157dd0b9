-- Hidden elements: those that stand in the content of a hidden row, which an infoset doesn't have.
use Rattle.std.specs.Prelude.{◌≡◌, ℕ, Bool, false, nat_eq, List}
use Rattle.std.specs.List.{list_any}
use Rattle.dfdl_terms.specs.declared.row.Row.{Row}
use Rattle.dfdl_terms.specs.declared.row.Row.TheVariants.{Hidden}
use Rattle.dfdl_terms.specs.Arrays.{is_marked}
use Rattle.dfdl_terms.specs.Rows.{Table}
use Rattle.dfdl_json.specs.Children.{elements_in}

-- the row is a hidden one, whose body declares the element of this number
abbrev pub hides : Table → ℕ → Row → Bool
hides t element (Hidden body) = list_any (nat_eq element) (elements_in t body)
hides t element _ = false

-- the elements of the row of this number are hidden ('Sequence Groups', on hidden groups)
abbrev pub is_hidden : Table → ℕ → Bool
is_hidden t element = list_any (hides t element) t.rows

-- the rows that are marked are those of hidden elements
abbrev pub MarksHidden : Table → List Bool → Type 0
MarksHidden t marks = (row : ℕ) → is_marked marks row ≡ is_hidden t row
