-- Which value a property has at a schema component: 'Property Scoping and DFDL Schema Checking'. A name and a value are
-- the bytes of a text.
use Rattle.std.specs.Prelude.{ℕ, List, [], ◌∷◌, Option, Some, None, is_some, if◌then◌else◌, Bool, ◌&&◌, ◌||◌}
use Rattle.std.specs.List.{list_any}
use Rattle.std.specs.Option.{option_or, option_map_or}
use Rattle.dfdl_report.specs.declared.place.Place.{Place}

-- properties that are given together: the value of each name that has one
abbrev pub Given : Type 0
Given = List ℕ → Option (List ℕ)

-- no property is given
abbrev pub nothing : Given
nothing name = None

-- the near ones, and those of the far ones that the near ones don't give: a format and the one that it refers to
abbrev pub nearer : Given → Given → Given
nearer near far name = option_or (near name) (far name)

-- an element of a component's chain: where it stands, its own local properties, which of them it writes twice (in two of the
-- short form, the attribute form and the element form), those of the format that it refers to, and those of the default
-- format of its document
pub record Element : Type 0 where
  pub place : Place
  pub own : Given
  pub is_twice : List ℕ → Bool
  pub format : Given
  pub by_default : Given

-- what an element of the chain gives explicitly: its own local properties, else those of its format
abbrev pub explicit : Element → Given
explicit element = nearer element.own element.format

-- some element of the chain gives the property explicitly
abbrev pub is_explicit : List Element → List ℕ → Bool
is_explicit chain name = list_any (λ element. is_some (explicit element name)) chain

-- the value in the first default format, of the documents of the chain's elements, that gives the property
abbrev pub default_value : List Element → Given
default_value [] name = None
default_value (element ∷ chain) name = option_or (element.by_default name) (default_value chain name)

-- what is told of a property at a component: its value, that it has none, or that it is given explicitly twice, by two
-- elements of the chain or by one of them, with the place of the first that gives it
pub data Told : Type 0 where
  Value : List ℕ → Told
  Absent : Told
  Twice : Place → Told

-- an element that gives a property explicitly gives it again, or one of those behind it gives it too
abbrev pub is_again : Element → List Element → List ℕ → Bool
is_again element behind name = element.is_twice name || is_explicit behind name

-- an element gives the value explicitly, with these elements behind it: it may stand there once
abbrev pub alone : List ℕ → Element → List Element → List ℕ → Told
alone value element behind name = if is_again element behind name then Twice element.place else Value value

-- told by the first of the elements that gives the property explicitly, else as it is told where none does
abbrev pub told_explicitly : List Element → List ℕ → Told → Told
told_explicitly [] name otherwise = otherwise
told_explicitly (element ∷ behind) name otherwise =
    option_map_or (λ value. alone value element behind name) (explicit element name) (told_explicitly behind name otherwise)

-- what is told of a property at the component of this chain: what is given explicitly, else by the first default format
-- that gives it, else it is absent
abbrev pub told : List Element → List ℕ → Told
told chain name = told_explicitly chain name (option_map_or Value (default_value chain name) Absent)

-- the property is explicit at the element, and is given again
unfoldable pub is_repeated : Element → List Element → List ℕ → Bool
is_repeated element behind name = is_some (explicit element name) && is_again element behind name

-- where the first element of the chain stands that gives a property of these names which is given again
abbrev pub repeated_at : List Element → List (List ℕ) → Option Place
repeated_at [] names = None
repeated_at (element ∷ behind) names = if list_any (is_repeated element behind) names then Some element.place else repeated_at behind names
