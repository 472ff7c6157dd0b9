-- The elements of which an infoset has members ('The DFDL Information Set').
use Rattle.std.specs.Prelude.{ℕ, Bool, ◌||◌, if◌then◌else◌, List, [], ◌∷◌, ◌++◌, fold}
use Rattle.std.specs.List.{list_any}
use Rattle.std.specs.Str.{bytes_eq}
use Rattle.dfdl_terms.specs.Rows.{Table}
use Rattle.dfdl_json.specs.Children.{elements_in, name_of}
use Rattle.dfdl_json.specs.Hidden.{is_hidden}

-- one of the elements of these rows has the name
abbrev pub is_declared : Table → List ℕ → List ℕ → Bool
is_declared t elements name = list_any (λ row. bytes_eq (name_of t row) name) elements

-- one more element: it has a member unless it is hidden, or one of those before it has its name
abbrev pub with_member : Table → List ℕ → ℕ → List ℕ
with_member t members row = if is_hidden t row || is_declared t members (name_of t row) then members else members ++ row ∷ []

-- of these elements those that have members: they aren't hidden, and of several of one name the first declares it
abbrev pub members_among : Table → List ℕ → List ℕ
members_among t elements = fold (with_member t) [] elements

-- the elements of which the content of this row has members, in schema order
abbrev pub members_in : Table → ℕ → List ℕ
members_in t row = members_among t (elements_in t row)
