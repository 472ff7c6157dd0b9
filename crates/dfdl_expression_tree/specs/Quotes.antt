-- What a literal that is a text stands for.
use Rattle.std.specs.Prelude.{ℕ, ◌==◌, if◌then◌else◌, List, [], ◌∷◌}

-- the characters behind the first quote: one for two quotes, and none for the last
abbrev pub unquoted_by : ℕ → List ℕ → List ℕ
unquoted_by quote [] = []
unquoted_by quote (c ∷ []) = if c == quote then [] else c ∷ []
unquoted_by quote (c ∷ d ∷ rest) = if c == quote then quote ∷ unquoted_by quote rest else c ∷ unquoted_by quote (d ∷ rest)

-- the characters that a literal in quotes stands for
abbrev pub unquoted : List ℕ → List ℕ
unquoted [] = []
unquoted (quote ∷ rest) = unquoted_by quote rest
