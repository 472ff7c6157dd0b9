-- The tokens of expressions: how they are spelled, and what may stand directly behind them. A text is its characters.
use Rattle.std.specs.Prelude.{◌≡◌, ℕ, ◌==◌, ◌&&◌, ◌||◌, nat_le, Bool, true, false, List, [], ◌∷◌, ◌++◌, ◌⊎◌, codes}
use Rattle.dfdl_layers.specs.Tellers.{Each}
use Rattle.dfdl_xml_chars.specs.Characters.{is_name_start, is_name_char}
use Rattle.dfdl_expression_text.specs.declared.kind.Kind.{Kind}
use Rattle.dfdl_expression_text.specs.declared.kind.Kind.TheVariants.{If, Name, Literal, Dollar, Slash, Dot, Open, Close}
use Rattle.dfdl_expression_text.specs.declared.kind.Kind.TheVariants.{Comma, OpenIndex, CloseIndex, Minus, Calculation}
use Rattle.dfdl_expression_text.specs.declared.kind.Kind.TheVariants.{Comparison, Junction, Then, Else}

-- space, tab, line feed or carriage return
abbrev pub is_white : ℕ → Bool
is_white c = c == 32 || (c == 9 || (c == 10 || c == 13))

abbrev pub is_digit : ℕ → Bool
is_digit c = nat_le 48 c && nat_le c 57

-- each character passes the test
abbrev pub AllPass : (ℕ → Bool) → List ℕ → Type 0
AllPass test = Each (λ c. test c ≡ true)

-- the text is empty, or its first character fails the test
abbrev pub Stops : (ℕ → Bool) → List ℕ → Type 0
Stops test [] = Unit {0}
Stops test (c ∷ rest) = test c ≡ false

-- a name without a colon
abbrev pub IsPart : List ℕ → Type 0
IsPart [] = ⊥
IsPart (c ∷ rest) = (is_name_start c ≡ true) × AllPass is_name_char rest

-- such a name before a colon and another
pub record IsPrefixed (word : List ℕ) : Type 0 where
  pub prefix : List ℕ
  pub part : List ℕ
  pub spelled : word ≡ prefix ++ 58 ∷ part
  pub is_prefix : IsPart prefix
  pub is_part : IsPart part

-- a name, with a prefix or without
abbrev pub IsName : List ℕ → Type 0
IsName word = IsPart word ⊎ IsPrefixed word

-- the name `if`
abbrev pub is_if : List ℕ → Bool
is_if (c ∷ d ∷ []) = c == 105 && d == 102
is_if _ = false

-- digits, and a point among them if there has been none
abbrev pub IsDigits : Bool → List ℕ → Type 0
IsDigits pointed [] = Unit {0}
IsDigits false (c ∷ rest) = ((is_digit c ≡ true) × IsDigits false rest) ⊎ ((c ≡ 46) × IsDigits true rest)
IsDigits true (c ∷ rest) = (is_digit c ≡ true) × IsDigits true rest

-- some digits
abbrev pub IsFraction : List ℕ → Type 0
IsFraction [] = ⊥
IsFraction (c ∷ rest) = (is_digit c ≡ true) × IsDigits true rest

-- a number begins with a digit, or with a point and a digit
abbrev pub IsNumber : List ℕ → Type 0
IsNumber [] = ⊥
IsNumber (c ∷ rest) = ((is_digit c ≡ true) × IsDigits false rest) ⊎ ((c ≡ 46) × IsFraction rest)

-- what ends a text in these quotes: characters, among which two quotes stand for one, and a quote
abbrev pub IsQuoted : ℕ → List ℕ → Type 0
IsQuoted quote [] = ⊥
IsQuoted quote (c ∷ []) = c ≡ quote
IsQuoted quote (c ∷ d ∷ rest) =
    ((c == quote) ≡ false × IsQuoted quote (d ∷ rest)) ⊎ ((c ≡ quote) × (d ≡ quote) × IsQuoted quote rest)

-- an apostrophe or a quotation mark
abbrev pub is_quote : ℕ → Bool
is_quote c = c == 39 || c == 34

-- signs of this kind that end with themselves
abbrev pub signs : Kind → List (List ℕ)
signs Dollar = codes "$" ∷ []
signs Slash = codes "/" ∷ []
signs Dot = codes ".." ∷ []
signs Open = codes "(" ∷ []
signs Close = codes ")" ∷ []
signs Comma = codes "," ∷ []
signs OpenIndex = codes "[" ∷ []
signs CloseIndex = codes "]" ∷ []
signs Minus = codes "-" ∷ []
signs Calculation = codes "+" ∷ codes "*" ∷ []
signs Comparison = codes "=" ∷ codes "!=" ∷ codes "<=" ∷ codes ">=" ∷ []
signs _ = []

-- operators of this kind that are words
abbrev pub words : Kind → List (List ℕ)
words Calculation = codes "div" ∷ codes "idiv" ∷ codes "mod" ∷ []
words Comparison = codes "eq" ∷ codes "ne" ∷ codes "lt" ∷ codes "le" ∷ codes "gt" ∷ codes "ge" ∷ []
words Junction = codes "and" ∷ codes "or" ∷ []
words Then = codes "then" ∷ []
words Else = codes "else" ∷ []
words If = codes "if" ∷ []
words _ = []

-- the word is one of these
abbrev pub IsOneOf : List (List ℕ) → List ℕ → Type 0
IsOneOf [] word = ⊥
IsOneOf (w ∷ ws) word = (word ≡ w) ⊎ IsOneOf ws word

-- what would make a number longer, and a letter, which needs white space before it
abbrev pub sticks : ℕ → Bool
sticks c = is_digit c || (c == 46 || is_name_start c)

-- a token of this kind is spelled so, where the rest follows: a token is as long as it can be, and white space stands
-- between a word or a number and a word
pub data IsToken : Kind → List ℕ → List ℕ → Type 0 where
  Sign : (k : Kind) (word rest : List ℕ) → IsOneOf (signs k) word → IsToken k word rest
  Word : (k : Kind) (word rest : List ℕ) → IsOneOf (words k) word → Stops is_name_char rest → IsToken k word rest
  Ordinary : (word rest : List ℕ) → IsName word → is_if word ≡ false → Stops is_name_char rest → IsToken Name word rest
  Number : (word rest : List ℕ) → IsNumber word → Stops sticks rest → IsToken Literal word rest
  Quoted : (quote : ℕ) (word rest : List ℕ) → is_quote quote ≡ true → IsQuoted quote word → Stops (λ c. c == quote) rest
      → IsToken Literal (quote ∷ word) rest
  OneDot : (rest : List ℕ) → Stops (λ c. c == 46 || is_digit c) rest → IsToken Dot (46 ∷ []) rest
  Angle : (c : ℕ) (rest : List ℕ) → (c == 60 || c == 62) ≡ true → Stops (λ c. c == 61) rest → IsToken Comparison (c ∷ []) rest

-- the text is spelled by tokens of these kinds, with white space before each and behind the last as may be
abbrev pub Spelled : List Kind → List ℕ → Type 0
Spelled [] text = AllPass is_white text
Spelled (k ∷ kinds) text =
    (space : List ℕ) × (word : List ℕ) × (rest : List ℕ) × (text ≡ space ++ (word ++ rest)) × AllPass is_white space
    × IsToken k word rest × Spelled kinds rest
