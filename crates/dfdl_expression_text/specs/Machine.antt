-- Mirror for the prover: how the reader goes over the characters of an expression, however many tokens it has. The grammar is
-- in Syntax, and no public contract cites this.
use Rattle.std.specs.Prelude.{◌≡◌, ℕ, ◌+◌, ◌==◌, Bool, true, false, ◌&&◌, ◌||◌, not, if◌then◌else◌, Option, Some, None}
use Rattle.std.specs.Prelude.{List, [], ◌∷◌, Result, Ok, Err}
use Rattle.dfdl_xml_chars.specs.Characters.{is_name_start, is_name_char, high_start_rows, high_name_rows}
use Rattle.dfdl_xml_chars.specs.Beyond.{Beyond, All, Only, Never}
use Rattle.dfdl_expression_text.specs.declared.kind.Kind.{Kind}
use Rattle.dfdl_expression_text.specs.declared.kind.Kind.TheVariants as k
use Rattle.dfdl_expression_text.specs.declared.mark.Mark.{Mark}
use Rattle.dfdl_expression_text.specs.declared.mark.Mark.TheVariants.{Begin, Arguments, Operand, Positive, Variable, Step}
use Rattle.dfdl_expression_text.specs.declared.mark.Mark.TheVariants.{BegunIf, Callable, Named, Stepped, Behind, Closed}
use Rattle.dfdl_expression_text.specs.declared.mark.Side.{Side}
use Rattle.dfdl_expression_text.specs.declared.mark.Side.TheVariants.{Before, After, Neither}
use Rattle.dfdl_expression_text.specs.declared.mark.Frame.{Frame}
use Rattle.dfdl_expression_text.specs.declared.mark.Frame.TheVariants.{InGroup, InCall, InIndex, InCondition, InConsequent}
use Rattle.dfdl_expression_text.specs.declared.mark.Act.{Act}
use Rattle.dfdl_expression_text.specs.declared.mark.Act.TheVariants.{Goes, Enters, Leaves}
use Rattle.dfdl_expression_text.specs.declared.piece.Stage.{Stage}
use Rattle.dfdl_expression_text.specs.declared.piece.Stage.TheVariants.{AfterI, AfterIf, First, Colon, Second}
use Rattle.dfdl_expression_text.specs.declared.piece.Word.{Word}
use Rattle.dfdl_expression_text.specs.declared.piece.Word.TheVariants as w
use Rattle.dfdl_expression_text.specs.declared.piece.Quote.{Quote}
use Rattle.dfdl_expression_text.specs.declared.piece.Quote.TheVariants.{Single, Double}
use Rattle.dfdl_expression_text.specs.declared.piece.Piece.{Piece}
use Rattle.dfdl_expression_text.specs.declared.piece.Piece.TheVariants as p
use Rattle.dfdl_expression_text.specs.declared.piece.Class.{Class}
use Rattle.dfdl_expression_text.specs.declared.piece.Class.TheVariants as class
use Rattle.dfdl_expression_text.specs.Tokens.{is_white, is_digit}

abbrev pub side : Mark → Side
side Begin = Before
side Arguments = Before
side (Operand b) = Before
side (Positive b) = Before
side BegunIf = After
side (Callable b) = After
side (Named b) = After
side (Stepped b) = After
side (Behind b) = After
side (Variable b) = Neither
side (Step b) = Neither
side Closed = Neither

abbrev pub is_compared : Mark → Bool
is_compared (Operand b) = b
is_compared (Positive b) = b
is_compared (Variable b) = b
is_compared (Step b) = b
is_compared (Callable b) = b
is_compared (Named b) = b
is_compared (Stepped b) = b
is_compared (Behind b) = b
is_compared _ = false

-- what a token does at an operand's begin, wherever it stands
abbrev pub begins : Bool → Kind → Option Act
begins b k.Literal = Some (Goes (Behind b))
begins b k.Dollar = Some (Goes (Variable b))
begins b k.Slash = Some (Goes (Step b))
begins b k.Dot = Some (Goes (Stepped b))
begins b k.Name = Some (Goes (Callable b))
begins b k.If = Some (Goes (Named b))
begins b k.Open = Some (Enters (InGroup b) Begin)
begins b _ = None

-- what a token does that closes what was opened last, or divides it
abbrev pub closes : Option Frame → Kind → Option Act
closes (Some (InGroup b)) k.Close = Some (Leaves (Behind b))
closes (Some (InCall b)) k.Close = Some (Leaves (Behind b))
closes (Some (InCall b)) k.Comma = Some (Goes Begin)
closes (Some (InIndex b)) k.CloseIndex = Some (Leaves (Stepped b))
closes (Some InCondition) k.Close = Some (Leaves Closed)
closes (Some InConsequent) k.Else = Some (Leaves Begin)
closes _ _ = None

-- what a token does behind an operand, whichever it is
abbrev pub follows : Option Frame → Bool → Kind → Option Act
follows top b k.Junction = Some (Goes (Operand false))
follows top b k.Comparison = if b then None else Some (Goes (Operand true))
follows top b k.Minus = Some (Goes (Operand b))
follows top b k.Calculation = Some (Goes (Operand b))
follows top b k.Close = closes top k.Close
follows top b k.Comma = closes top k.Comma
follows top b k.CloseIndex = closes top k.CloseIndex
follows top b k.Else = closes top k.Else
follows top b _ = None

-- what a token does at a side
abbrev pub general : Side → Option Frame → Bool → Kind → Option Act
general Before top b k = begins b k
general After top b k = follows top b k
general Neither top b k = None

-- what a token does at one mark alone
abbrev pub at_begin : Kind → Option Act
at_begin k.If = Some (Goes BegunIf)
at_begin k.Minus = Some (Goes (Positive false))
at_begin _ = None

abbrev pub at_arguments : Option Frame → Kind → Option Act
at_arguments top k.If = Some (Goes BegunIf)
at_arguments top k.Minus = Some (Goes (Positive false))
at_arguments top k.Close = closes top k.Close
at_arguments top _ = None

abbrev pub at_operand : Bool → Kind → Option Act
at_operand b k.Minus = Some (Goes (Positive b))
at_operand b _ = None

abbrev pub at_variable : Bool → Kind → Option Act
at_variable b k.If = Some (Goes (Behind b))
at_variable b k.Name = Some (Goes (Behind b))
at_variable b _ = None

abbrev pub at_step : Bool → Kind → Option Act
at_step b k.If = Some (Goes (Named b))
at_step b k.Name = Some (Goes (Named b))
at_step b k.Dot = Some (Goes (Stepped b))
at_step b _ = None

abbrev pub at_if : Kind → Option Act
at_if k.Open = Some (Enters InCondition Begin)
at_if k.OpenIndex = Some (Enters (InIndex false) Begin)
at_if k.Slash = Some (Goes (Step false))
at_if _ = None

abbrev pub at_callable : Bool → Kind → Option Act
at_callable b k.Open = Some (Enters (InCall b) Arguments)
at_callable b k.OpenIndex = Some (Enters (InIndex b) Begin)
at_callable b k.Slash = Some (Goes (Step b))
at_callable b _ = None

abbrev pub at_named : Bool → Kind → Option Act
at_named b k.OpenIndex = Some (Enters (InIndex b) Begin)
at_named b k.Slash = Some (Goes (Step b))
at_named b _ = None

abbrev pub at_stepped : Bool → Kind → Option Act
at_stepped b k.Slash = Some (Goes (Step b))
at_stepped b _ = None

abbrev pub at_closed : Kind → Option Act
at_closed k.Then = Some (Enters InConsequent Begin)
at_closed _ = None

abbrev pub special : Option Frame → Mark → Kind → Option Act
special top Begin k = at_begin k
special top Arguments k = at_arguments top k
special top (Operand b) k = at_operand b k
special top (Positive b) k = None
special top (Variable b) k = at_variable b k
special top (Step b) k = at_step b k
special top BegunIf k = at_if k
special top (Callable b) k = at_callable b k
special top (Named b) k = at_named b k
special top (Stepped b) k = at_stepped b k
special top (Behind b) k = None
special top Closed k = at_closed k

abbrev pub or_act : Option Act → Option Act → Option Act
or_act (Some a) other = Some a
or_act None other = other

-- what a token does
unfoldable pub act : Option Frame → Mark → Kind → Option Act
act top mark k = or_act (special top mark k) (general (side mark) top (is_compared mark) k)

-- where the next token stands, and what is open, the innermost first
pub record At : Type 0 where
  pub mark : Mark
  pub opened : List Frame

abbrev pub top : List Frame → Option Frame
top [] = None
top (f ∷ fs) = Some f

abbrev pub behind_top : List Frame → List Frame
behind_top [] = []
behind_top (f ∷ fs) = fs

abbrev pub acted : List Frame → Act → At
acted fs (Goes mark) = record { mark = mark; opened = fs }
acted fs (Enters f mark) = record { mark = mark; opened = f ∷ fs }
acted fs (Leaves mark) = record { mark = mark; opened = behind_top fs }

abbrev pub acted_by : List Frame → Option Act → Option At
acted_by fs None = None
acted_by fs (Some a) = Some (acted fs a)

-- where the token behind one of this kind stands, if one may stand here
abbrev pub next : At → Kind → Option At
next at k = acted_by at.opened (act (top at.opened) at.mark k)

-- an expression may end here
abbrev pub ends_at : Side → List Frame → Bool
ends_at After [] = true
ends_at _ _ = false

abbrev pub may_end : At → Bool
may_end at = ends_at (side at.mark) at.opened

-- the character that begins and ends a text
abbrev pub mark_of : Quote → ℕ
mark_of Single = 39
mark_of Double = 34

-- what the character begins that is no letter
unfoldable pub sign_of : ℕ → Class
sign_of c =
    if c == 36 then class.Sign k.Dollar
    else (if c == 47 then class.Sign k.Slash
    else (if c == 40 then class.Sign k.Open
    else (if c == 41 then class.Sign k.Close
    else (if c == 44 then class.Sign k.Comma
    else (if c == 91 then class.Sign k.OpenIndex
    else (if c == 93 then class.Sign k.CloseIndex
    else (if c == 45 then class.Sign k.Minus
    else (if c == 43 || c == 42 then class.Sign k.Calculation
    else (if c == 61 then class.Sign k.Comparison
    else class.Other)))))))))

-- what the character begins
unfoldable pub class_of : ℕ → Class
class_of c =
    if is_white c then class.White
    else (if c == 39 then class.Quote Single
    else (if c == 34 then class.Quote Double
    else (if is_digit c then class.Digit
    else (if c == 46 then class.Point
    else (if c == 60 || c == 62 then class.Angle
    else (if c == 33 then class.Bang
    else (if is_name_start c then class.Letter else sign_of c)))))))

-- what has been read: the open piece, where its token stands or, where its kind is known, where the next one does, and
-- how many tokens have begun
pub record State : Type 0 where
  pub piece : Piece
  pub at : At
  pub count : ℕ

-- nothing has been read
abbrev pub start : State
start = record { piece = p.Ready; at = record { mark = Begin; opened = [] }; count = 0 }

abbrev pub refuse : Result State ℕ
refuse = Err 3

-- the same token goes on
abbrev pub on : Piece → ℕ → Option At → Result State ℕ
on piece count None = refuse
on piece count (Some at) = Ok (record { piece = piece; at = at; count = count })

-- a token whose kind is known begins
abbrev pub begin : Piece → ℕ → Option At → Result State ℕ
begin piece count next = on piece (count + 1) next

-- one begins whose kind isn't known, at a place where it may stand
abbrev pub hold : Piece → ℕ → At → Option At → Result State ℕ
hold piece count at None = refuse
hold piece count at (Some other) = Ok (record { piece = piece; at = at; count = count + 1 })

-- the first of the two, if there is one
abbrev pub or_at : Option At → Option At → Option At
or_at (Some at) other = Some at
or_at None other = other

-- the first letter of an operator
unfoldable pub word_begins : At → ℕ → ℕ → Result State ℕ
word_begins at count c =
    if c == 97 then begin (p.Word w.Nd) count (next at k.Junction)
    else (if c == 111 then begin (p.Word w.R) count (next at k.Junction)
    else (if c == 100 then begin (p.Word w.Iv) count (next at k.Calculation)
    else (if c == 105 then begin (p.Word w.Div) count (next at k.Calculation)
    else (if c == 109 then begin (p.Word w.Od) count (next at k.Calculation)
    else (if c == 101 then hold p.Either count at (or_at (next at k.Comparison) (next at k.Else))
    else (if c == 110 then begin (p.Word w.E) count (next at k.Comparison)
    else (if c == 108 || c == 103 then begin p.Order count (next at k.Comparison)
    else (if c == 116 then begin (p.Word w.Hen) count (next at k.Then)
    else refuse))))))))

-- a letter begins a name where one may stand, and else an operator
abbrev pub letter_begins : At → ℕ → ℕ → Option At → Result State ℕ
letter_begins at count c None = word_begins at count c
letter_begins at count c (Some other) =
    Ok (record { piece = p.Named (if c == 105 then AfterI else First); at = at; count = count + 1 })

abbrev pub begin_by : Class → At → ℕ → ℕ → Result State ℕ
begin_by class.White at count c = Ok (record { piece = p.Ready; at = at; count = count })
begin_by (class.Sign kind) at count c = begin p.Ready count (next at kind)
begin_by (class.Quote quote) at count c = begin (p.Text quote) count (next at k.Literal)
begin_by class.Digit at count c = begin (p.Digits false) count (next at k.Literal)
begin_by class.Point at count c = hold p.Point count at (next at k.Dot)
begin_by class.Angle at count c = begin p.MayEqual count (next at k.Comparison)
begin_by class.Bang at count c = begin p.MustEqual count (next at k.Comparison)
begin_by class.Letter at count c = letter_begins at count c (next at k.Name)
begin_by class.Other at count c = refuse

-- the character behind a whole token
abbrev pub begin_at : At → ℕ → ℕ → Result State ℕ
begin_at at count c = begin_by (class_of c) at count c

-- the same, where the token before has ended if it may stand there
abbrev pub end_before : Option At → ℕ → ℕ → Result State ℕ
end_before None count c = refuse
end_before (Some at) count c = begin_at at count c

-- the name goes on
unfoldable pub stage_next : Stage → ℕ → Option Stage
stage_next Colon c = if is_name_start c then Some Second else None
stage_next Second c = if is_name_char c then Some Second else None
stage_next AfterI c =
    if c == 102 then Some AfterIf else (if is_name_char c then Some First else (if c == 58 then Some Colon else None))
stage_next AfterIf c = if is_name_char c then Some First else (if c == 58 then Some Colon else None)
stage_next First c = if is_name_char c then Some First else (if c == 58 then Some Colon else None)

-- where the token behind the name stands
abbrev pub named_at : At → Stage → Option At
named_at at Colon = None
named_at at AfterIf = next at k.If
named_at at AfterI = next at k.Name
named_at at First = next at k.Name
named_at at Second = next at k.Name

abbrev pub name_step : Option Stage → Stage → At → ℕ → ℕ → Result State ℕ
name_step (Some stage) before at count c = Ok (record { piece = p.Named stage; at = at; count = count })
name_step None before at count c = end_before (named_at at before) count c

-- the operator goes on by this letter
abbrev pub word_next : Word → ℕ × Piece
word_next w.D = (100, p.Spelled)
word_next w.Nd = (110, p.Word w.D)
word_next w.Od = (111, p.Word w.D)
word_next w.V = (118, p.Spelled)
word_next w.Iv = (105, p.Word w.V)
word_next w.Div = (100, p.Word w.Iv)
word_next w.R = (114, p.Spelled)
word_next w.E = (101, p.Spelled)
word_next w.Se = (115, p.Word w.E)
word_next w.N = (110, p.Spelled)
word_next w.En = (101, p.Word w.N)
word_next w.Hen = (104, p.Word w.En)

-- one character more
abbrev pub step_piece : Piece → At → ℕ → ℕ → Result State ℕ
step_piece p.Ready at count c = begin_at at count c
step_piece (p.Named stage) at count c = name_step (stage_next stage c) stage at count c
step_piece (p.Digits pointed) at count c =
    if is_digit c then Ok (record { piece = p.Digits pointed; at = at; count = count })
    else (if c == 46 then (if pointed then refuse else Ok (record { piece = p.Digits true; at = at; count = count }))
    else (if is_name_start c then refuse else begin_at at count c))
step_piece p.Point at count c =
    if c == 46 then on p.Ready count (next at k.Dot)
    else (if is_digit c then on (p.Digits true) count (next at k.Literal) else end_before (next at k.Dot) count c)
step_piece p.MayEqual at count c =
    if c == 61 then Ok (record { piece = p.Ready; at = at; count = count }) else begin_at at count c
step_piece p.MustEqual at count c =
    if c == 61 then Ok (record { piece = p.Ready; at = at; count = count }) else refuse
step_piece (p.Text quote) at count c =
    Ok (record { piece = if c == mark_of quote then p.Quoted quote else p.Text quote; at = at; count = count })
step_piece (p.Quoted quote) at count c =
    if c == mark_of quote then Ok (record { piece = p.Text quote; at = at; count = count }) else begin_at at count c
step_piece (p.Word word) at count c =
    if c == (word_next word).0 then Ok (record { piece = (word_next word).1; at = at; count = count }) else refuse
step_piece p.Order at count c =
    if c == 116 || c == 101 then Ok (record { piece = p.Spelled; at = at; count = count }) else refuse
step_piece p.Either at count c =
    if c == 113 then on p.Spelled count (next at k.Comparison)
    else (if c == 108 then on (p.Word w.Se) count (next at k.Else) else refuse)
step_piece p.Spelled at count c = if is_name_char c then refuse else begin_at at count c

abbrev pub step : State → ℕ → Result State ℕ
step s c = step_piece s.piece s.at s.count c

abbrev pub may_end_if : Option At → Bool
may_end_if None = false
may_end_if (Some at) = may_end at

-- an expression may end behind what was read
abbrev pub accepts_piece : Piece → At → Bool
accepts_piece p.Ready at = may_end at
accepts_piece (p.Named stage) at = may_end_if (named_at at stage)
accepts_piece (p.Digits pointed) at = may_end at
accepts_piece p.Point at = may_end_if (next at k.Dot)
accepts_piece p.MayEqual at = may_end at
accepts_piece p.MustEqual at = false
accepts_piece (p.Text quote) at = false
accepts_piece (p.Quoted quote) at = may_end at
accepts_piece (p.Word word) at = false
accepts_piece p.Order at = false
accepts_piece p.Either at = false
accepts_piece p.Spelled at = may_end at

abbrev pub accepts : State → Bool
accepts s = accepts_piece s.piece s.at

-- what the place does with characters past ASCII
abbrev pub beyond_names : Option At → Beyond
beyond_names None = Never [] 3 3
beyond_names (Some at) = Only high_start_rows 3

abbrev pub beyond_stage : Stage → Beyond
beyond_stage Colon = Only high_start_rows 3
beyond_stage AfterI = Only high_name_rows 3
beyond_stage AfterIf = Only high_name_rows 3
beyond_stage First = Only high_name_rows 3
beyond_stage Second = Only high_name_rows 3

abbrev pub beyond_piece : Piece → At → Beyond
beyond_piece p.Ready at = beyond_names (next at k.Name)
beyond_piece (p.Named stage) at = beyond_stage stage
beyond_piece (p.Digits pointed) at = Never [] 3 3
beyond_piece p.Point at = Never [] 3 3
beyond_piece p.MayEqual at = beyond_names (next at k.Name)
beyond_piece p.MustEqual at = Never [] 3 3
beyond_piece (p.Text quote) at = All
beyond_piece (p.Quoted quote) at = beyond_names (next at k.Name)
beyond_piece (p.Word word) at = Never [] 3 3
beyond_piece p.Order at = Never [] 3 3
beyond_piece p.Either at = Never [] 3 3
beyond_piece p.Spelled at = Never [] 3 3

abbrev pub beyond : State → Beyond
beyond s = beyond_piece s.piece s.at
