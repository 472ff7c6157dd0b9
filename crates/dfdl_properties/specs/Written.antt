-- Properties as they are written one after another, at a component or in a format.
use Rattle.std.specs.Prelude.{ℕ, List, [], ◌∷◌, Option, Some, None, is_some, if◌then◌else◌, Bool, false}
use Rattle.std.specs.Str.{bytes_eq}

-- a property as it is written: its name, and its value
pub record Written : Type 0 where
  pub name : List ℕ
  pub value : List ℕ

-- the first value of a name
abbrev pub first_of : List Written → List ℕ → Option (List ℕ)
first_of [] name = None
first_of (property ∷ others) name =
    if bytes_eq property.name name then Some property.value else first_of others name

-- the name has a second value
abbrev pub has_second : List Written → List ℕ → Bool
has_second [] name = false
has_second (property ∷ others) name =
    if bytes_eq property.name name then is_some (first_of others name) else has_second others name
