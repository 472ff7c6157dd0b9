-- The grammar of expressions, over the kinds of their tokens.
use Rattle.std.specs.Prelude.{◌≡◌, ℕ, ◌≤◌, Bool, true, false, List, [], ◌∷◌, ◌++◌, length, encode_utf8}
use Rattle.std.specs.List.{flat_map}
use Rattle.std.specs.Char.{IsScalar}
use Rattle.dfdl_layers.specs.Tellers.{Each}
use Rattle.dfdl_layers.specs.Allowed.{Allowed}
use Rattle.dfdl_xml_chars.specs.Characters.{is_allowed}
use Rattle.dfdl_expression_text.specs.declared.kind.Kind.{Kind}
use Rattle.dfdl_expression_text.specs.declared.kind.Kind.TheVariants.{If, Name, Literal, Dollar, Slash, Dot, Open, Close}
use Rattle.dfdl_expression_text.specs.declared.kind.Kind.TheVariants.{Comma, OpenIndex, CloseIndex, Minus, Calculation}
use Rattle.dfdl_expression_text.specs.declared.kind.Kind.TheVariants.{Comparison, Junction, Then, Else}
use Rattle.dfdl_expression_text.specs.Tokens.{Spelled}

-- a name, `if` too
abbrev pub is_name : Kind → Bool
is_name If = true
is_name Name = true
is_name _ = false

-- an operator that calculates
abbrev pub calculates : Kind → Bool
calculates Minus = true
calculates Calculation = true
calculates _ = false

-- the parts of an expression
pub data Part : Type 0 where
  -- an expression
  Whole : Part
  -- what follows an operand; the flag tells that the operands back to the last `and` or `or` have been compared
  Rest : Bool → Part
  -- an operand with its sign
  Term : Part
  -- an operand
  Factor : Part
  -- the arguments of a call, with the `)` behind them
  Arguments : Part
  -- what follows an argument
  Further : Part
  -- the steps of a path
  Steps : Part
  -- what follows a step
  Onward : Part
  -- what follows the name of a step
  Index : Part

-- A part of an expression. Operators and operands are a chain: which operator binds its operands closer, and that those
-- of one strength group from the left, is no matter of what may stand where. That two comparisons have an `and` or an
-- `or` between them is.
pub data Syntax : Part → Type 0 where
  Conditional : Syntax Whole → Syntax Whole → Syntax Whole → Syntax Whole
  Chain : Syntax Term → Syntax (Rest false) → Syntax Whole
  Ended : (compared : Bool) → Syntax (Rest compared)
  Joined : (compared : Bool) → Syntax Term → Syntax (Rest false) → Syntax (Rest compared)
  Compared : Syntax Term → Syntax (Rest true) → Syntax (Rest false)
  Calculated : (compared : Bool) (k : Kind) → calculates k ≡ true → Syntax Term → Syntax (Rest compared)
      → Syntax (Rest compared)
  Negative : Syntax Factor → Syntax Term
  Plain : Syntax Factor → Syntax Term
  Constant : Syntax Factor
  Variable : (k : Kind) → is_name k ≡ true → Syntax Factor
  Call : Syntax Arguments → Syntax Factor
  Absolute : Syntax Steps → Syntax Factor
  Relative : Syntax Steps → Syntax Factor
  Group : Syntax Whole → Syntax Factor
  NoArguments : Syntax Arguments
  SomeArguments : Syntax Whole → Syntax Further → Syntax Arguments
  LastArgument : Syntax Further
  NextArgument : Syntax Whole → Syntax Further → Syntax Further
  DotStep : Syntax Onward → Syntax Steps
  NameStep : (k : Kind) → is_name k ≡ true → Syntax Index → Syntax Onward → Syntax Steps
  LastStep : Syntax Onward
  NextStep : Syntax Steps → Syntax Onward
  NoIndex : Syntax Index
  AnIndex : Syntax Whole → Syntax Index

-- the kinds of the tokens of a part
abbrev pub spelling : {p : Part} → Syntax p → List Kind
spelling (Conditional test first second) =
    If ∷ Open ∷ (spelling test ++ Close ∷ Then ∷ (spelling first ++ Else ∷ spelling second))
spelling (Chain first rest) = spelling first ++ spelling rest
spelling (Ended compared) = []
spelling (Joined compared term rest) = Junction ∷ (spelling term ++ spelling rest)
spelling (Compared term rest) = Comparison ∷ (spelling term ++ spelling rest)
spelling (Calculated compared k is term rest) = k ∷ (spelling term ++ spelling rest)
spelling (Negative factor) = Minus ∷ spelling factor
spelling (Plain factor) = spelling factor
spelling Constant = Literal ∷ []
spelling (Variable k is) = Dollar ∷ k ∷ []
spelling (Call arguments) = Name ∷ Open ∷ spelling arguments
spelling (Absolute steps) = Slash ∷ spelling steps
spelling (Relative steps) = spelling steps
spelling (Group inner) = Open ∷ (spelling inner ++ Close ∷ [])
spelling NoArguments = Close ∷ []
spelling (SomeArguments first rest) = spelling first ++ spelling rest
spelling LastArgument = Close ∷ []
spelling (NextArgument next rest) = Comma ∷ (spelling next ++ spelling rest)
spelling (DotStep onward) = Dot ∷ spelling onward
spelling (NameStep k is index onward) = k ∷ (spelling index ++ spelling onward)
spelling LastStep = []
spelling (NextStep steps) = Slash ∷ spelling steps
spelling NoIndex = []
spelling (AnIndex inner) = OpenIndex ∷ (spelling inner ++ CloseIndex ∷ [])

-- the characters are an expression of so many tokens
pub record Reads (count : ℕ) (characters : List ℕ) : Type 0 where
  pub expression : Syntax Whole
  pub spelled : Spelled (spelling expression) characters
  pub counted : count ≡ length (spelling expression)

-- an expression has no more tokens: each terminal is one, so is a name with its prefix, and `$` and a name are two
abbrev pub most_tokens : ℕ
most_tokens = 1000
