-- Mirror for the prover: how the tokens of an expression are found in its bytes. The grammar of tokens is in dfdl_expression_text.
use Rattle.std.specs.Prelude.{ℕ, ◌+◌, ◌==◌, nat_le, Bool, true, false, ◌&&◌, ◌||◌, if◌then◌else◌, Option, Some, None, List, [], ◌∷◌, take}
use Rattle.std.specs.Prelude.{drop, codes, bytes_eq}
use Rattle.dfdl_expression_text.specs.declared.kind.Kind.{Kind}
use Rattle.dfdl_expression_text.specs.declared.kind.Kind.TheVariants as k
use Rattle.dfdl_expression_text.specs.Tokens.{is_white, is_digit, is_quote}
use Rattle.dfdl_expression_tree.specs.declared.piece.Piece.{Piece}
use Rattle.dfdl_expression_tree.specs.declared.piece.Piece.TheVariants as p
use Rattle.dfdl_expression_tree.specs.declared.token.Token.{Token}
use Rattle.dfdl_expression_tree.specs.TokenLists.{token_at}

-- the byte may begin a word
unfoldable pub begins_word : ℕ → Bool
begins_word b = nat_le 128 b || ((nat_le 65 b && nat_le b 90) || (b == 95 || (nat_le 97 b && nat_le b 122)))

-- the byte may stand in a word
unfoldable pub is_in_word : ℕ → Bool
is_in_word b = begins_word b || ((nat_le 45 b && nat_le b 46) || (nat_le 48 b && nat_le b 58))

-- the token that a byte begins
unfoldable pub begun : ℕ → Piece
begun b =
    if is_quote b then p.Text b
    else (if is_digit b then p.Digits
    else (if b == 46 then p.Point
    else (if (b == 60 || b == 62) || b == 33 then p.MayEqual
    else (if begins_word b then p.Word else p.Whole))))

-- the token with one byte more, where it goes on with it
abbrev pub goes : Piece → ℕ → Option Piece
goes p.White b = if is_white b then Some p.White else None
goes p.Word b = if is_in_word b then Some p.Word else None
goes p.Digits b = if is_digit b || b == 46 then Some p.Digits else None
goes (p.Text quote) b = if b == quote then Some (p.Quoted quote) else Some (p.Text quote)
goes (p.Quoted quote) b = if b == quote then Some (p.Text quote) else None
goes p.Point b = if b == 46 then Some p.Whole else (if is_digit b then Some p.Digits else None)
goes p.MayEqual b = if b == 61 then Some p.Whole else None
goes p.Whole b = None

-- how many of the bytes go on with it
abbrev pub more : Option Piece → (Piece → ℕ) → ℕ
more None rest = 0
more (Some piece) rest = rest piece + 1

-- how many bytes go on with it one after the other
abbrev pub rest_of : Piece → List ℕ → ℕ
rest_of piece [] = 0
rest_of piece (b ∷ bytes) = more (goes piece b) (λ next. rest_of next bytes)

-- the kind of an operator that is a word
unfoldable pub worded : List ℕ → Kind
worded word =
    if bytes_eq word (codes "and") || bytes_eq word (codes "or") then k.Junction
    else (if bytes_eq word (codes "div") || (bytes_eq word (codes "idiv") || bytes_eq word (codes "mod")) then k.Calculation
    else (if bytes_eq word (codes "then") then k.Then
    else (if bytes_eq word (codes "else") then k.Else else k.Comparison)))

-- the kind of a sign
unfoldable pub signed : ℕ → Kind
signed b =
    if b == 36 then k.Dollar
    else (if b == 47 then k.Slash
    else (if b == 40 then k.Open
    else (if b == 41 then k.Close
    else (if b == 44 then k.Comma
    else (if b == 91 then k.OpenIndex
    else (if b == 93 then k.CloseIndex
    else (if b == 45 then k.Minus
    else (if b == 61 then k.Comparison else k.Calculation))))))))

-- a name, or behind an operand an operator
abbrev pub kind_of_word : Bool → List ℕ → Kind
kind_of_word true word = worded word
kind_of_word false word = if bytes_eq word (codes "if") then k.If else k.Name

-- one point or two, or a number
abbrev pub kind_of_point : List ℕ → Kind
kind_of_point [] = k.Dot
kind_of_point (b ∷ bytes) = if b == 46 then k.Dot else k.Literal

-- the kind of a token by what its first byte begins
abbrev pub kind_by : Piece → Bool → ℕ → List ℕ → Kind
kind_by p.White ended b bytes = k.Literal
kind_by p.Word ended b bytes = kind_of_word ended (b ∷ bytes)
kind_by p.Digits ended b bytes = k.Literal
kind_by (p.Text quote) ended b bytes = k.Literal
kind_by (p.Quoted quote) ended b bytes = k.Literal
kind_by p.Point ended b bytes = kind_of_point bytes
kind_by p.MayEqual ended b bytes = k.Comparison
kind_by p.Whole ended b bytes = signed b

-- the kind of a token, where an operand has ended before it or not
abbrev pub kind_of : Bool → List ℕ → Kind
kind_of ended [] = k.Literal
kind_of ended (b ∷ bytes) = kind_by (begun b) ended b bytes

-- an operand may end with it
abbrev pub ends_operand : Kind → Bool
ends_operand k.If = true
ends_operand k.Name = true
ends_operand k.Literal = true
ends_operand k.Dot = true
ends_operand k.Close = true
ends_operand k.CloseIndex = true
ends_operand _ = false

-- the token of a word, where an operand has ended before it or not
abbrev pub token_by : Bool → ℕ → List ℕ → Token
token_by ended from word = token_at (kind_of ended word) from word

-- the token with which the bytes begin, of which the first has this number
abbrev pub first_token : Bool → ℕ → List ℕ → Option Token
first_token ended from [] = None
first_token ended from (b ∷ bytes) = Some (token_by ended from (take (rest_of (begun b) bytes + 1) (b ∷ bytes)))

-- the same behind white space
abbrev pub next_token : Bool → ℕ → List ℕ → Option Token
next_token ended at bytes = first_token ended (at + rest_of p.White bytes) (drop (rest_of p.White bytes) bytes)
