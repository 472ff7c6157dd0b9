-- Mirror for the prover: how marks go from rows to those that stand in their place.
use Rattle.std.specs.Prelude.{ℕ, Bool, true, false, if◌then◌else◌, List, [], ◌∷◌, set}
use Rattle.dfdl_terms.specs.declared.row.Row.{Row}
use Rattle.dfdl_terms.specs.declared.row.Row.TheVariants.{Elem, Group, Scope, Concluded, Boxed, PrefixedBox, MeasuredBox, Repeat, Counted, Optional, Choice, Dispatch, Hidden, Spanned, Instance, Separated}
use Rattle.dfdl_terms.specs.Arrays.{is_marked}
use Rattle.dfdl_json.specs.Children.{bodies_of, keyed}

-- the rows that stand in the place of a row; an element stands there itself
abbrev pub parts_in : Row → List ℕ
parts_in (Group children) = children
parts_in (Choice branches initiated) = branches
parts_in (Dispatch question keys) = keyed keys
parts_in (Separated policy position initiated slots) = bodies_of slots
parts_in (Scope list body) = body ∷ []
parts_in (Concluded behind body) = body ∷ []
parts_in (Boxed bits body) = body ∷ []
parts_in (PrefixedBox prefix body) = body ∷ []
parts_in (MeasuredBox measure body) = body ∷ []
parts_in (Repeat count body) = body ∷ []
parts_in (Counted question body) = body ∷ []
parts_in (Optional most item initiated body) = body ∷ []
parts_in (Hidden body) = body ∷ []
parts_in (Spanned body) = body ∷ []
parts_in (Instance statement body) = body ∷ []
parts_in _ = []

-- marks with those of these rows
abbrev pub all_marked : List Bool → List ℕ → List Bool
all_marked marks [] = marks
all_marked marks (row ∷ rows) = set (all_marked marks rows) row true

-- the row's mark goes to those in its place: an element keeps its own, and a hidden row needs none
abbrev pub goes_on : Row → Bool → Bool
goes_on (Elem name simple tried behind body) marked = false
goes_on (Hidden body) marked = true
goes_on _ marked = marked

-- marks behind the row of a number
abbrev pub passed_on : ℕ → Row → List Bool → List Bool
passed_on id row marks = if goes_on row (is_marked marks id) then all_marked (set marks id false) (parts_in row) else marks
