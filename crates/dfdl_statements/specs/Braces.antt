-- The braces around an expression. 'DFDL Expression Language'.
use Rattle.std.specs.Prelude.{ℕ, ◌==◌, if◌then◌else◌, List, [], ◌∷◌, Option, Some, None, option_map}

-- what is behind the brace `{` with which a text begins
abbrev pub opened : List ℕ → Option (List ℕ)
opened [] = None
opened (c ∷ rest) = if c == 123 then Some rest else None

-- what is before the last brace, by a character, by what is behind it, and by what is before the brace there
abbrev pub closed_by : ℕ → List ℕ → Option (List ℕ) → Option (List ℕ)
closed_by c [] inner = if c == 125 then Some [] else None
closed_by c (d ∷ rest) inner = option_map (λ text. c ∷ text) inner

-- what is before the brace `}` with which a text ends
abbrev pub closed : List ℕ → Option (List ℕ)
closed [] = None
closed (c ∷ rest) = closed_by c rest (closed rest)

abbrev pub closed_in : Option (List ℕ) → Option (List ℕ)
closed_in None = None
closed_in (Some text) = closed text

-- what is between the braces with which a text begins and ends
abbrev pub unbraced : List ℕ → Option (List ℕ)
unbraced text = closed_in (opened text)
