-- The tokens of a text as a list: what each is, and which bytes it has.
use Rattle.std.specs.Prelude.{◌≡◌, ℕ, ◌+◌, ◌-◌, ◌<◌, ◌≤◌, ◌||◌, Bool, false, if◌then◌else◌, List, [], ◌∷◌, length, codes, bytes_eq, encode_utf8, get_or, take, drop}
use Rattle.std.specs.List.{flat_map}
use Rattle.dfdl_expression_text.specs.declared.kind.Kind.{Kind}
use Rattle.dfdl_expression_text.specs.declared.kind.Kind.TheVariants as k
use Rattle.dfdl_expression_text.specs.Tokens.{is_quote, Spelled}
use Rattle.dfdl_expression_tree.specs.declared.token.Operator.{Operator}
use Rattle.dfdl_expression_tree.specs.declared.token.Operator.TheVariants as o
use Rattle.dfdl_expression_tree.specs.declared.token.Form.{Form}
use Rattle.dfdl_expression_tree.specs.declared.token.Form.TheVariants as f
use Rattle.dfdl_expression_tree.specs.declared.token.Token.{Token}

-- what an operator that is spelled so does, where it stands between operands
unfoldable pub operator_of : List ℕ → Operator
operator_of word =
    if bytes_eq word (codes "or") then o.Or
    else (if bytes_eq word (codes "and") then o.And
    else (if bytes_eq word (codes "=") || bytes_eq word (codes "eq") then o.Equal
    else (if bytes_eq word (codes "!=") || bytes_eq word (codes "ne") then o.NotEqual
    else (if bytes_eq word (codes "<") || bytes_eq word (codes "lt") then o.Less
    else (if bytes_eq word (codes "<=") || bytes_eq word (codes "le") then o.LessOrEqual
    else (if bytes_eq word (codes ">") || bytes_eq word (codes "gt") then o.Greater
    else (if bytes_eq word (codes ">=") || bytes_eq word (codes "ge") then o.GreaterOrEqual
    else (if bytes_eq word (codes "+") then o.Plus
    else (if bytes_eq word (codes "-") then o.Minus
    else (if bytes_eq word (codes "*") then o.Times
    else (if bytes_eq word (codes "div") then o.Divide
    else (if bytes_eq word (codes "idiv") then o.WholeDivide else o.Remainder))))))))))))

-- the word begins with a quote
abbrev pub is_text : List ℕ → Bool
is_text [] = false
is_text (b ∷ bytes) = is_quote b

-- what tells a token of this kind that is spelled so from others of the kind
abbrev pub form_of : Kind → List ℕ → Form
form_of k.Literal word = if is_text word then f.Text else f.Number
form_of k.Dot word = if bytes_eq word (codes ".") then f.Here else f.Parent
form_of k.Minus word = f.Operation (operator_of word)
form_of k.Calculation word = f.Operation (operator_of word)
form_of k.Comparison word = f.Operation (operator_of word)
form_of k.Junction word = f.Operation (operator_of word)
form_of _ word = f.Plain

-- characters as bytes
abbrev pub coded : List ℕ → List ℕ
coded text = flat_map encode_utf8 text

-- the token of a kind with these bytes, the first of which has this number
abbrev pub token_at : Kind → ℕ → List ℕ → Token
token_at kind from word = record { kind = kind; form = form_of kind word; span = record { from = from; to = from + length word } }

-- the tokens of characters that are spelled so, where the first byte has this number
abbrev pub tokens_from : ℕ → (kinds : List Kind) → (text : List ℕ) → Spelled kinds text → List Token
tokens_from at [] text white = []
tokens_from at (kind ∷ kinds) text (space, word, rest, same, white, token, spelled) =
    token_at kind (at + length (coded space)) (coded word)
    ∷ tokens_from (at + length (coded space) + length (coded word)) kinds rest spelled

-- what stands for a token past the last
abbrev pub no_token : Token
no_token = record { kind = k.Literal; form = f.Plain; span = record { from = 0; to = 0 } }

-- the token of this number
abbrev pub nth_token : List Token → ℕ → Token
nth_token tokens n = get_or tokens n no_token

-- tokens stand in the bytes from a place on, one behind the other, and each is told by its own bytes
abbrev pub Lie : List ℕ → ℕ → List Token → Type 0
Lie bytes at [] = Unit {0}
Lie bytes at (t ∷ tokens) =
    (at ≤ t.span.from) × (t.span.from < t.span.to) × (t.span.to ≤ length bytes)
    × (t ≡ token_at t.kind t.span.from (take (t.span.to - t.span.from) (drop t.span.from bytes)))
    × Lie bytes t.span.to tokens
