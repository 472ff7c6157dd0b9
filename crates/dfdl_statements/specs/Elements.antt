-- The elements of rows as paths see them: which is around a row, and which are inside of one. 'DFDL Expression Language'.
use Rattle.std.specs.Prelude.{ℕ, zero, suc, ◌-◌, List, [], ◌∷◌, ◌++◌, length, replicate, Bool, false, bytes_eq, if◌then◌else◌, Option, Some, None, slice_get, slice_index_or, slice_set}
use Rattle.std.specs.List.{flat_map}
use Rattle.dfdl_forms.specs.declared.simple.Simple.{Simple}
use Rattle.dfdl_expression_types.specs.declared.statics.Element.{Element}
use Rattle.dfdl_terms.specs.declared.row.Row.{Row}
use Rattle.dfdl_statements.specs.Children.{children_in, content_in, name_in, simple_in}

-- Elements are numbered by their rows, from the last one on, so that the root element has the number 0. This is the number of the element of
-- a row, and the row of the element of a number, among so many rows.
abbrev pub turned : ℕ → ℕ → ℕ
turned count number = count - 1 - number

-- the element around each row, where it is told that this one is around some
abbrev pub told : Option ℕ → List ℕ → List (Option ℕ) → List (Option ℕ)
told around [] table = table
told around (row ∷ rows) table = told around rows (slice_set table row around)

-- the element around what is right inside of a row: that of a row which has a content, or the one around it
abbrev pub around_inside : ℕ → ℕ → Option ℕ → Option ℕ → Option ℕ
around_inside count number (Some body) around = Some (turned count number)
around_inside count number None around = around

-- the same where a row tells it
abbrev pub told_by : ℕ → ℕ → Option Row → List (Option ℕ) → List (Option ℕ)
told_by count number row table = told (around_inside count number (content_in row) (slice_index_or table number None)) (children_in row) table

-- the element around each row, as so many rows tell it, from the last one on
abbrev pub arounds_by : List Row → ℕ → List (Option ℕ)
arounds_by rows zero = replicate (length rows) None
arounds_by rows (suc n) = told_by (length rows) (turned (length rows) n) (slice_get rows (turned (length rows) n)) (arounds_by rows n)

-- the element around each row, if there is one
abbrev pub arounds : List Row → List (Option ℕ)
arounds rows = arounds_by rows (length rows)

-- the outermost elements of some rows, by those of each
abbrev pub outermost_of : List (List ℕ) → List ℕ → List ℕ
outermost_of table rows = flat_map (λ row. slice_index_or table row []) rows

-- those of a row: itself, where it has the content of an element
abbrev pub outermost : ℕ → ℕ → Option ℕ → List ℕ → List (List ℕ) → List ℕ
outermost count number (Some body) children table = turned count number ∷ []
outermost count number None children table = outermost_of table children

-- those of each of the first so many rows, in schema order
abbrev pub tops_of : List Row → ℕ → List (List ℕ)
tops_of rows zero = []
tops_of rows (suc n) =
    tops_of rows n ++ outermost (length rows) n (content_in (slice_get rows n)) (children_in (slice_get rows n)) (tops_of rows n) ∷ []

-- those of each row
abbrev pub tops : List Row → List (List ℕ)
tops rows = tops_of rows (length rows)

abbrev pub is_text : List ℕ → Option (List ℕ) → Bool
is_text text None = false
is_text text (Some other) = bytes_eq other text

abbrev pub or_else : {X : Type 0} → Option X → Option X → Option X
or_else None other = other
or_else (Some x) other = Some x

-- A name has the number of the first row whose element has it. This is told of the first so many rows.
abbrev pub named_in : List Row → List ℕ → ℕ → Option ℕ
named_in rows name zero = None
named_in rows name (suc n) = or_else (named_in rows name n) (if is_text name (name_in (slice_get rows n)) then Some n else None)

-- the number of a name, if an element has it
abbrev pub named : List Row → List ℕ → Option ℕ
named rows name = named_in rows name (length rows)

abbrev pub number_of : List Row → Option (List ℕ) → Option ℕ
number_of rows None = None
number_of rows (Some name) = named rows name

abbrev pub known : Option ℕ → ℕ
known None = 0
known (Some number) = number

-- an element that is declared
pub record Declaration : Type 0 where
  pub parent : Option ℕ
  pub name : ℕ
  pub simple : Option Simple
  pub children : List ℕ

-- the outermost elements of the content of an element
abbrev pub inside_of : List Row → Option ℕ → List ℕ
inside_of rows None = []
inside_of rows (Some body) = slice_index_or (tops rows) body []

-- The declaration of a row. One of no element stands in its place alone: no path leads there.
abbrev pub declared_by : List Row → ℕ → Option Row → Declaration
declared_by rows number row = record {
  parent = slice_index_or (arounds rows) number None;
  name = known (number_of rows (name_in row));
  simple = simple_in row;
  children = inside_of rows (content_in row);
}

-- the declarations of the first so many elements
abbrev pub declarations_of : List Row → ℕ → List Declaration
declarations_of rows zero = []
declarations_of rows (suc n) =
    declarations_of rows n ++ declared_by rows (turned (length rows) n) (slice_get rows (turned (length rows) n)) ∷ []

-- the elements of rows
abbrev pub declarations : List Row → List Declaration
declarations rows = declarations_of rows (length rows)

-- an element, as it is declared
abbrev pub declaration_shown : Element → Declaration
declaration_shown e = record { parent = e.parent; name = e.name; simple = e.simple; children = e.children.items }

-- the numbers of the names of the first so many rows' elements
abbrev pub name_numbers_of : List Row → ℕ → List (Option ℕ)
name_numbers_of rows zero = []
name_numbers_of rows (suc n) = name_numbers_of rows n ++ number_of rows (name_in (slice_get rows n)) ∷ []

-- the number of the local name of each row's element
abbrev pub name_numbers : List Row → List (Option ℕ)
name_numbers rows = name_numbers_of rows (length rows)
