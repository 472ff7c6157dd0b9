-- Which values of properties are expressions: 'DFDL Expression Language'.
use Rattle.std.specs.Prelude.{ℕ, List, [], ◌∷◌, Bool, false, ◌==◌, not, ◌&&◌, if◌then◌else◌}

-- the text begins with a brace `{`
abbrev pub has_brace : List ℕ → Bool
has_brace [] = false
has_brace (c ∷ rest) = c == 123

-- the value is an expression: it begins with one brace and not with two
abbrev pub is_expression : List ℕ → Bool
is_expression [] = false
is_expression (c ∷ rest) = c == 123 && not (has_brace rest)

-- the text that a value stands for that is no expression: two braces at its beginning stand for one
abbrev pub literal : List ℕ → List ℕ
literal [] = []
literal (c ∷ rest) = if c == 123 && has_brace rest then rest else c ∷ rest
