-- What a state needs at least never falls, and where the reader accepts it is what has been counted.
use Rattle.std.proofs.Common.{◌≡◌, ℕ, ◌+◌, ◌<◌, ◌≤◌, ◌==◌, ◌||◌, Bool, true, false, List, [], ◌∷◌, drop, if◌then◌else◌, Option, Some, None, is_some, Result, Ok, Err, IfOk, IfSome, IsSome, refl, ap, sym, subst, ◌∙◌, arith}
use Rattle.dfdl_xml_chars.specs.Characters.{is_name_start, is_name_char}
use Rattle.dfdl_expression_text.specs.declared.kind.Kind.{Kind}
use Rattle.dfdl_expression_text.specs.declared.kind.Kind.TheVariants as k
use Rattle.dfdl_expression_text.specs.declared.mark.Mark.{Mark}
use Rattle.dfdl_expression_text.specs.declared.mark.Mark.TheVariants as m
use Rattle.dfdl_expression_text.specs.declared.mark.Frame.{Frame}
use Rattle.dfdl_expression_text.specs.declared.mark.Frame.TheVariants.{InGroup, InCall, InIndex, InCondition, InConsequent}
use Rattle.dfdl_expression_text.specs.declared.piece.Stage.{Stage}
use Rattle.dfdl_expression_text.specs.declared.piece.Stage.TheVariants.{AfterI, AfterIf, First, Colon, Second}
use Rattle.dfdl_expression_text.specs.declared.piece.Piece.{Piece}
use Rattle.dfdl_expression_text.specs.declared.piece.Piece.TheVariants as p
use Rattle.dfdl_expression_text.specs.declared.piece.Word.TheVariants as w
use Rattle.dfdl_expression_text.specs.declared.piece.Class.{Class}
use Rattle.dfdl_expression_text.specs.declared.piece.Class.TheVariants as class
use Rattle.dfdl_expression_text.specs.Tokens.{is_digit}
use Rattle.dfdl_expression_text.specs.Machine.{At, act, top, begins, follows, acted_by, next, may_end, may_end_if, class_of, mark_of, State, on, begin, hold, or_at, word_begins, letter_begins, begin_by, begin_at, end_before}
use Rattle.dfdl_expression_text.specs.Machine.{stage_next, named_at, name_step, word_next, step_piece, step, accepts, accepts_piece}
use Rattle.dfdl_expression_text.specs.Limit.{owed_all, owed_mark, owed, passed, beside, left_open, least}
use Rattle.dfdl_expression_text.proofs.Texts.{at_option}

abbrev to : Mark → List Frame → At
to mark fs = record { mark = mark; opened = fs }

-- one token takes one at most of what is owed
abbrev Falls : ℕ → Option At → Type 0
Falls n o = IfSome o (λ t. n ≤ owed t + 1)

begins_falls : (fs : List Frame) (b : Bool) (kind : Kind) (n : ℕ) → n ≤ 1 + owed_all fs → Falls n (acted_by fs (begins b kind))
begins_falls fs b k.Literal n few = omega arith
begins_falls fs b k.Dollar n few = omega arith
begins_falls fs b k.Slash n few = omega arith
begins_falls fs b k.Dot n few = omega arith
begins_falls fs b k.Name n few = omega arith
begins_falls fs b k.If n few = omega arith
begins_falls fs b k.Open n few = omega arith
begins_falls fs b _ n few = tt

follows_falls : (fs : List Frame) (b : Bool) (kind : Kind) → Falls (0 + owed_all fs) (acted_by fs (follows (top fs) b kind))
follows_falls fs b k.Junction = omega arith
follows_falls fs false k.Comparison = omega arith
follows_falls fs true k.Comparison = tt
follows_falls fs b k.Minus = omega arith
follows_falls fs b k.Calculation = omega arith
follows_falls (InGroup c ∷ fs) b k.Close = omega arith
follows_falls (InCall c ∷ fs) b k.Close = omega arith
follows_falls (InCondition ∷ fs) b k.Close = omega arith
follows_falls (InCall c ∷ fs) b k.Comma = omega arith
follows_falls (InIndex c ∷ fs) b k.CloseIndex = omega arith
follows_falls (InConsequent ∷ fs) b k.Else = omega arith
follows_falls _ _ _ = tt

pub token_falls : (mark : Mark) (fs : List Frame) (kind : Kind) → Falls (owed (to mark fs)) (next (to mark fs) kind)
unfolding act
token_falls m.Begin fs k.If = omega arith
token_falls m.Begin fs k.Minus = omega arith
token_falls m.Begin fs kind = begins_falls fs false kind (1 + owed_all fs) (omega arith)
token_falls m.Arguments fs k.If = omega arith
token_falls m.Arguments fs k.Minus = omega arith
token_falls m.Arguments [] k.Close = tt
token_falls m.Arguments (InGroup b ∷ fs) k.Close = omega arith
token_falls m.Arguments (InCall b ∷ fs) k.Close = omega arith
token_falls m.Arguments (InIndex b ∷ fs) k.Close = tt
token_falls m.Arguments (InCondition ∷ fs) k.Close = omega arith
token_falls m.Arguments (InConsequent ∷ fs) k.Close = tt
token_falls m.Arguments fs kind = begins_falls fs false kind (0 + owed_all fs) (omega arith)
token_falls (m.Operand b) fs k.Minus = omega arith
token_falls (m.Operand b) fs kind = begins_falls fs b kind (1 + owed_all fs) (omega arith)
token_falls (m.Positive b) fs kind = begins_falls fs b kind (1 + owed_all fs) (omega arith)
token_falls (m.Variable b) fs k.If = omega arith
token_falls (m.Variable b) fs k.Name = omega arith
token_falls (m.Variable b) fs kind = tt
token_falls (m.Step b) fs k.If = omega arith
token_falls (m.Step b) fs k.Name = omega arith
token_falls (m.Step b) fs k.Dot = omega arith
token_falls (m.Step b) fs kind = tt
token_falls m.BegunIf fs k.Open = omega arith
token_falls m.BegunIf fs k.OpenIndex = omega arith
token_falls m.BegunIf fs k.Slash = omega arith
token_falls m.BegunIf fs kind = follows_falls fs false kind
token_falls (m.Callable b) fs k.Open = omega arith
token_falls (m.Callable b) fs k.OpenIndex = omega arith
token_falls (m.Callable b) fs k.Slash = omega arith
token_falls (m.Callable b) fs kind = follows_falls fs b kind
token_falls (m.Named b) fs k.OpenIndex = omega arith
token_falls (m.Named b) fs k.Slash = omega arith
token_falls (m.Named b) fs kind = follows_falls fs b kind
token_falls (m.Stepped b) fs k.Slash = omega arith
token_falls (m.Stepped b) fs kind = follows_falls fs b kind
token_falls (m.Behind b) fs kind = follows_falls fs b kind
token_falls m.Closed fs k.Then = omega arith
token_falls m.Closed fs kind = tt

-- behind a token of these kinds an operand may end
abbrev is_operand : Kind → Bool
is_operand k.If = true
is_operand k.Name = true
is_operand k.Literal = true
is_operand k.Dot = true
is_operand _ = false

pub operand_owes : (mark : Mark) (fs : List Frame) (kind : Kind) → is_operand kind ≡ true
    → IfSome (next (to mark fs) kind) (λ t. owed t ≡ 0 + owed_all fs)
unfolding act
operand_owes m.Begin fs k.If is = refl
operand_owes m.Begin fs k.Name is = refl
operand_owes m.Begin fs k.Literal is = refl
operand_owes m.Begin fs k.Dot is = refl
operand_owes m.Arguments fs k.If is = refl
operand_owes m.Arguments fs k.Name is = refl
operand_owes m.Arguments fs k.Literal is = refl
operand_owes m.Arguments fs k.Dot is = refl
operand_owes (m.Operand b) fs k.If is = refl
operand_owes (m.Operand b) fs k.Name is = refl
operand_owes (m.Operand b) fs k.Literal is = refl
operand_owes (m.Operand b) fs k.Dot is = refl
operand_owes (m.Positive b) fs k.If is = refl
operand_owes (m.Positive b) fs k.Name is = refl
operand_owes (m.Positive b) fs k.Literal is = refl
operand_owes (m.Positive b) fs k.Dot is = refl
operand_owes (m.Variable b) fs k.If is = refl
operand_owes (m.Variable b) fs k.Name is = refl
operand_owes (m.Variable b) fs k.Literal is = tt
operand_owes (m.Variable b) fs k.Dot is = tt
operand_owes (m.Step b) fs k.If is = refl
operand_owes (m.Step b) fs k.Name is = refl
operand_owes (m.Step b) fs k.Literal is = tt
operand_owes (m.Step b) fs k.Dot is = refl
operand_owes m.Closed fs k.If is = tt
operand_owes m.Closed fs k.Name is = tt
operand_owes m.Closed fs k.Literal is = tt
operand_owes m.Closed fs k.Dot is = tt
operand_owes m.BegunIf fs k.If is = tt
operand_owes m.BegunIf fs k.Name is = tt
operand_owes m.BegunIf fs k.Literal is = tt
operand_owes m.BegunIf fs k.Dot is = tt
operand_owes (m.Callable b) fs k.If is = tt
operand_owes (m.Callable b) fs k.Name is = tt
operand_owes (m.Callable b) fs k.Literal is = tt
operand_owes (m.Callable b) fs k.Dot is = tt
operand_owes (m.Named b) fs k.If is = tt
operand_owes (m.Named b) fs k.Name is = tt
operand_owes (m.Named b) fs k.Literal is = tt
operand_owes (m.Named b) fs k.Dot is = tt
operand_owes (m.Stepped b) fs k.If is = tt
operand_owes (m.Stepped b) fs k.Name is = tt
operand_owes (m.Stepped b) fs k.Literal is = tt
operand_owes (m.Stepped b) fs k.Dot is = tt
operand_owes (m.Behind b) fs k.If is = tt
operand_owes (m.Behind b) fs k.Name is = tt
operand_owes (m.Behind b) fs k.Literal is = tt
operand_owes (m.Behind b) fs k.Dot is = tt
operand_owes mark fs kind is = absurd (cc)

-- and what an `else` closes
follows_else : (fs : List Frame) (b : Bool) → IfSome (acted_by fs (follows (top fs) b k.Else)) (λ t. owed t ≡ 1 + owed_all (drop 1 fs))
follows_else [] b = tt
follows_else (InGroup c ∷ fs) b = tt
follows_else (InCall c ∷ fs) b = tt
follows_else (InIndex c ∷ fs) b = tt
follows_else (InCondition ∷ fs) b = tt
follows_else (InConsequent ∷ fs) b = refl

pub else_owes : (mark : Mark) (fs : List Frame) → IfSome (next (to mark fs) k.Else) (λ t. owed t ≡ 1 + owed_all (drop 1 fs))
unfolding act
else_owes m.BegunIf fs = follows_else fs false
else_owes (m.Callable b) fs = follows_else fs b
else_owes (m.Named b) fs = follows_else fs b
else_owes (m.Stepped b) fs = follows_else fs b
else_owes (m.Behind b) fs = follows_else fs b
else_owes m.Begin fs = tt
else_owes m.Arguments fs = tt
else_owes (m.Operand b) fs = tt
else_owes (m.Positive b) fs = tt
else_owes (m.Variable b) fs = tt
else_owes (m.Step b) fs = tt
else_owes m.Closed fs = tt

follows_comparison : (fs : List Frame) (b : Bool) → IfSome (acted_by fs (follows (top fs) b k.Comparison)) (λ t. owed t ≡ 1 + owed_all fs)
follows_comparison fs true = tt
follows_comparison fs false = refl

pub comparison_owes : (mark : Mark) (fs : List Frame) → IfSome (next (to mark fs) k.Comparison) (λ t. owed t ≡ 1 + owed_all fs)
unfolding act
comparison_owes m.BegunIf fs = follows_comparison fs false
comparison_owes (m.Callable b) fs = follows_comparison fs b
comparison_owes (m.Named b) fs = follows_comparison fs b
comparison_owes (m.Stepped b) fs = follows_comparison fs b
comparison_owes (m.Behind b) fs = follows_comparison fs b
comparison_owes m.Begin fs = tt
comparison_owes m.Arguments fs = tt
comparison_owes (m.Operand b) fs = tt
comparison_owes (m.Positive b) fs = tt
comparison_owes (m.Variable b) fs = tt
comparison_owes (m.Step b) fs = tt
comparison_owes m.Closed fs = tt

pub drop_few : (b : Bool) (fs : List Frame) → owed_all (drop (passed b) fs) ≤ owed_all fs
drop_few false fs = omega arith
drop_few true [] = omega arith
drop_few true (f ∷ fs) = omega arith

-- the same of a token that stands there
pub falls_to : (at t : At) (kind : Kind) → next at kind ≡ Some t → owed at ≤ owed t + 1
falls_to at t kind goes = subst (Falls (owed at)) goes (token_falls at.mark at.opened kind)

pub owes_to : (at t : At) (kind : Kind) → is_operand kind ≡ true → next at kind ≡ Some t → owed t ≡ 0 + owed_all at.opened
owes_to at t kind is goes = subst (λ o. IfSome o (λ u. owed u ≡ 0 + owed_all at.opened)) goes (operand_owes at.mark at.opened kind is)

pub named_to : (stage : Stage) (at t : At) → named_at at stage ≡ Some t → owed t ≡ 0 + owed_all at.opened
named_to Colon at t goes = absurd (cc)
named_to AfterIf at t goes = owes_to at t k.If refl goes
named_to AfterI at t goes = owes_to at t k.Name refl goes
named_to First at t goes = owes_to at t k.Name refl goes
named_to Second at t goes = owes_to at t k.Name refl goes

pub else_to : (at t : At) → next at k.Else ≡ Some t → owed t ≡ 1 + owed_all (drop 1 at.opened)
else_to at t goes = subst (λ o. IfSome o (λ u. owed u ≡ 1 + owed_all (drop 1 at.opened))) goes (else_owes at.mark at.opened)

pub comparison_to : (at t : At) → next at k.Comparison ≡ Some t → owed t ≡ 1 + owed_all at.opened
comparison_to at t goes = subst (λ o. IfSome o (λ u. owed u ≡ 1 + owed_all at.opened)) goes (comparison_owes at.mark at.opened)

abbrev st : Piece → At → ℕ → State
st piece at count = record { piece = piece; at = at; count = count }

-- of `eq` and `else` what is needed at least
pub either_least : (at : At) (count : ℕ) → IsSome (or_at (next at k.Comparison) (next at k.Else)) → count + owed at ≤ least (st p.Either at (count + 1))
either_least at count some =
    at_option (next at k.Else) (λ o. count + owed at ≤ ((count + 1) + 1) + owed_all (drop (passed (is_some o)) at.opened))
    (λ none. at_option (next at k.Comparison) (λ o. count + owed at ≤ ((count + 1) + 1) + owed_all at.opened)
    (λ never. absurd (let known : IsSome (or_at None None) = subst (λ o. IsSome (or_at o None)) never (subst (λ o. IsSome (or_at (next at k.Comparison) o)) none some) in cc))
    (λ t goes. let falls = falls_to at t k.Comparison goes in let owes = comparison_to at t goes in omega arith))
    (λ t goes. let falls = falls_to at t k.Else goes in let owes = else_to at t goes in omega arith)

-- what a step comes to needs so many tokens at least
abbrev pub Rises : ℕ → Result State ℕ → Type 0
Rises n r = IfOk r (λ t. n ≤ least t)

if_rises : (n : ℕ) (b : Bool) (x y : Result State ℕ) → Rises n x → Rises n y → Rises n (if b then x else y)
if_rises n true x y first second = first
if_rises n false x y first second = second

-- a piece of which the kind is known, so that the next token stands at the mark
abbrev is_known : Piece → Bool
is_known (p.Named stage) = false
is_known p.Point = false
is_known p.Either = false
is_known _ = true

known_least : (piece : Piece) (at : At) (count : ℕ) → is_known piece ≡ true → least (st piece at count) ≡ count + owed at
known_least p.Ready at count is = omega arith
known_least (p.Digits pointed) at count is = omega arith
known_least p.MayEqual at count is = omega arith
known_least p.MustEqual at count is = omega arith
known_least (p.Text quote) at count is = omega arith
known_least (p.Quoted quote) at count is = omega arith
known_least (p.Word word) at count is = omega arith
known_least p.Order at count is = omega arith
known_least p.Spelled at count is = omega arith
known_least (p.Named stage) at count is = absurd (cc)
known_least p.Point at count is = absurd (cc)
known_least p.Either at count is = absurd (cc)

-- a piece of a token of this kind
begin_rises : (at : At) (count : ℕ) (piece : Piece) (kind : Kind) → is_known piece ≡ true → Rises (count + owed at) (begin piece count (next at kind))
begin_rises at count piece kind known =
    at_option (next at kind) (λ o. Rises (count + owed at) (begin piece count o)) (λ e. tt)
    (λ t goes. let falls = falls_to at t kind goes in let is = known_least piece t (count + 1) known in omega arith)

point_rises : (at : At) (count : ℕ) → Rises (count + owed at) (hold p.Point count at (next at k.Dot))
point_rises at count =
    at_option (next at k.Dot) (λ o. Rises (count + owed at) (hold p.Point count at o)) (λ e. tt)
    (λ t goes. let falls = falls_to at t k.Dot goes in let owes = owes_to at t k.Dot refl goes in omega arith)

either_rises : (at : At) (count : ℕ) → Rises (count + owed at) (hold p.Either count at (or_at (next at k.Comparison) (next at k.Else)))
either_rises at count =
    at_option (or_at (next at k.Comparison) (next at k.Else)) (λ o. Rises (count + owed at) (hold p.Either count at o)) (λ e. tt)
    (λ t goes. either_least at count (subst (λ x. IsSome x) (sym goes) refl))

word_rises : (at : At) (count c : ℕ) → Rises (count + owed at) (word_begins at count c)
unfolding word_begins
word_rises at count c =
    if_rises _ (c == 97) _ _ (begin_rises at count (p.Word w.Nd) k.Junction refl)
    (if_rises _ (c == 111) _ _ (begin_rises at count (p.Word w.R) k.Junction refl)
    (if_rises _ (c == 100) _ _ (begin_rises at count (p.Word w.Iv) k.Calculation refl)
    (if_rises _ (c == 105) _ _ (begin_rises at count (p.Word w.Div) k.Calculation refl)
    (if_rises _ (c == 109) _ _ (begin_rises at count (p.Word w.Od) k.Calculation refl)
    (if_rises _ (c == 101) _ _ (either_rises at count)
    (if_rises _ (c == 110) _ _ (begin_rises at count (p.Word w.E) k.Comparison refl)
    (if_rises _ (c == 108 || c == 103) _ _ (begin_rises at count p.Order k.Comparison refl)
    (if_rises _ (c == 116) _ _ (begin_rises at count (p.Word w.Hen) k.Then refl) tt))))))))

letter_rises : (at : At) (count c : ℕ) → Rises (count + owed at) (letter_begins at count c (next at k.Name))
letter_rises at count c =
    at_option (next at k.Name) (λ o. Rises (count + owed at) (letter_begins at count c o)) (λ e. word_rises at count c)
    (λ t goes. let falls = falls_to at t k.Name goes in let owes = owes_to at t k.Name refl goes in omega arith)

class_rises : (cl : Class) (at : At) (count c : ℕ) → Rises (count + owed at) (begin_by cl at count c)
class_rises class.White at count c = omega arith
class_rises (class.Sign kind) at count c = begin_rises at count p.Ready kind refl
class_rises (class.Quote quote) at count c = begin_rises at count (p.Text quote) k.Literal refl
class_rises class.Digit at count c = begin_rises at count (p.Digits false) k.Literal refl
class_rises class.Point at count c = point_rises at count
class_rises class.Angle at count c = begin_rises at count p.MayEqual k.Comparison refl
class_rises class.Bang at count c = begin_rises at count p.MustEqual k.Comparison refl
class_rises class.Letter at count c = letter_rises at count c
class_rises class.Other at count c = tt

behind_rises : (at : At) (count c : ℕ) → Rises (count + owed at) (begin_at at count c)
behind_rises at count c = class_rises (class_of c) at count c

-- a token of this kind ends before the character
end_rises : (at : At) (count c : ℕ) (kind : Kind) → is_operand kind ≡ true → Rises ((count + 0) + owed_all at.opened) (end_before (next at kind) count c)
end_rises at count c kind is =
    at_option (next at kind) (λ o. Rises ((count + 0) + owed_all at.opened) (end_before o count c)) (λ e. tt)
    (λ t goes. let owes = owes_to at t kind is goes in
    let same : count + owed t ≡ (count + 0) + owed_all at.opened = omega arith in
    subst (λ n. Rises n (begin_at t count c)) same (behind_rises t count c))

named_rises : (stage : Stage) (at : At) (count c : ℕ) → Rises ((count + 0) + owed_all at.opened) (end_before (named_at at stage) count c)
named_rises Colon at count c = tt
named_rises AfterIf at count c = end_rises at count c k.If refl
named_rises AfterI at count c = end_rises at count c k.Name refl
named_rises First at count c = end_rises at count c k.Name refl
named_rises Second at count c = end_rises at count c k.Name refl

name_rises : (o : Option Stage) (stage : Stage) (at : At) (count c : ℕ) → Rises ((count + 0) + owed_all at.opened) (name_step o stage at count c)
name_rises (Some other) stage at count c = omega arith
name_rises None stage at count c = named_rises stage at count c

-- the piece ends before the character
ended_rises : (piece : Piece) (at : At) (count c : ℕ) → is_known piece ≡ true → Rises (least (st piece at count)) (begin_at at count c)
ended_rises piece at count c known = subst (λ n. Rises n (begin_at at count c)) (sym (known_least piece at count known)) (behind_rises at count c)

pub rises : (piece : Piece) (at : At) (count c : ℕ) → Rises (least (st piece at count)) (step_piece piece at count c)
rises p.Ready at count c = ended_rises p.Ready at count c refl
rises (p.Named stage) at count c = name_rises (stage_next stage c) stage at count c
rises (p.Digits pointed) at count c =
    if_rises _ (is_digit c) _ _ (omega arith)
    (if_rises _ (c == 46) _ _ (if_rises _ pointed _ _ tt (omega arith)) (if_rises _ (is_name_start c) _ _ tt (ended_rises (p.Digits pointed) at count c refl)))
rises p.Point at count c =
    if_rises _ (c == 46) _ _
    (at_option (next at k.Dot) (λ o. Rises ((count + 0) + owed_all at.opened) (on p.Ready count o)) (λ e. tt) (λ t goes. let owes = owes_to at t k.Dot refl goes in omega arith))
    (if_rises _ (is_digit c) _ _
    (at_option (next at k.Literal) (λ o. Rises ((count + 0) + owed_all at.opened) (on (p.Digits true) count o)) (λ e. tt) (λ t goes. let owes = owes_to at t k.Literal refl goes in omega arith))
    (end_rises at count c k.Dot refl))
rises p.MayEqual at count c = if_rises _ (c == 61) _ _ (omega arith) (ended_rises p.MayEqual at count c refl)
rises p.MustEqual at count c = if_rises _ (c == 61) _ _ (omega arith) tt
rises (p.Text quote) at count c =
    elim (c == mark_of quote) as (λ b. least (st (p.Text quote) at count) ≤ least (st (if b then p.Quoted quote else p.Text quote) at count)) [ true ↦ omega arith | false ↦ omega arith ]
rises (p.Quoted quote) at count c = if_rises _ (c == mark_of quote) _ _ (omega arith) (ended_rises (p.Quoted quote) at count c refl)
rises (p.Word w.D) at count c = if_rises _ (c == 100) _ _ (omega arith) tt
rises (p.Word w.V) at count c = if_rises _ (c == 118) _ _ (omega arith) tt
rises (p.Word w.R) at count c = if_rises _ (c == 114) _ _ (omega arith) tt
rises (p.Word w.E) at count c = if_rises _ (c == 101) _ _ (omega arith) tt
rises (p.Word w.N) at count c = if_rises _ (c == 110) _ _ (omega arith) tt
rises (p.Word w.Nd) at count c = if_rises _ (c == 110) _ _ (omega arith) tt
rises (p.Word w.Od) at count c = if_rises _ (c == 111) _ _ (omega arith) tt
rises (p.Word w.Iv) at count c = if_rises _ (c == 105) _ _ (omega arith) tt
rises (p.Word w.Div) at count c = if_rises _ (c == 100) _ _ (omega arith) tt
rises (p.Word w.Se) at count c = if_rises _ (c == 115) _ _ (omega arith) tt
rises (p.Word w.En) at count c = if_rises _ (c == 101) _ _ (omega arith) tt
rises (p.Word w.Hen) at count c = if_rises _ (c == 104) _ _ (omega arith) tt
rises p.Order at count c = if_rises _ (c == 116 || c == 101) _ _ (omega arith) tt
rises p.Either at count c =
    if_rises _ (c == 113) _ _
    (at_option (next at k.Comparison) (λ o. Rises (least (st p.Either at count)) (on p.Spelled count o)) (λ e. tt)
    (λ t goes. let owes = comparison_to at t goes in let few = drop_few (is_some (next at k.Else)) at.opened in omega arith))
    (if_rises _ (c == 108) _ _
    (at_option (next at k.Else) (λ o. Rises ((count + 1) + owed_all (drop (passed (is_some o)) at.opened)) (on (p.Word w.Se) count o)) (λ e. tt)
    (λ t goes. let owes = else_to at t goes in omega arith)) tt)
rises p.Spelled at count c = if_rises _ (is_name_char c) _ _ tt (ended_rises p.Spelled at count c refl)

-- an expression that may end owes nothing
ends_owe : (mark : Mark) (fs : List Frame) → may_end (to mark fs) ≡ true → owed (to mark fs) ≡ 0
ends_owe m.BegunIf [] ends = refl
ends_owe (m.Callable b) [] ends = refl
ends_owe (m.Named b) [] ends = refl
ends_owe (m.Stepped b) [] ends = refl
ends_owe (m.Behind b) [] ends = refl
ends_owe _ _ ends = absurd (cc)

ends_behind : (at : At) (count : ℕ) (kind : Kind) → is_operand kind ≡ true → may_end_if (next at kind) ≡ true → (count + 0) + owed_all at.opened ≤ count
ends_behind at count kind is =
    at_option (next at kind) (λ o. may_end_if o ≡ true → (count + 0) + owed_all at.opened ≤ count) (λ e ends. absurd (cc))
    (λ t goes ends. let owes = owes_to at t kind is goes in let none = ends_owe t.mark t.opened ends in omega arith)

pub accepted_least : (piece : Piece) (at : At) (count : ℕ) → accepts_piece piece at ≡ true → least (st piece at count) ≤ count
accepted_least p.Ready at count ends = let none = ends_owe at.mark at.opened ends in omega arith
accepted_least (p.Digits pointed) at count ends = let none = ends_owe at.mark at.opened ends in omega arith
accepted_least p.MayEqual at count ends = let none = ends_owe at.mark at.opened ends in omega arith
accepted_least (p.Quoted quote) at count ends = let none = ends_owe at.mark at.opened ends in omega arith
accepted_least p.Spelled at count ends = let none = ends_owe at.mark at.opened ends in omega arith
accepted_least p.Point at count ends = ends_behind at count k.Dot refl ends
accepted_least (p.Named AfterIf) at count ends = ends_behind at count k.If refl ends
accepted_least (p.Named AfterI) at count ends = ends_behind at count k.Name refl ends
accepted_least (p.Named First) at count ends = ends_behind at count k.Name refl ends
accepted_least (p.Named Second) at count ends = ends_behind at count k.Name refl ends
accepted_least (p.Named Colon) at count ends = absurd (cc)
accepted_least p.MustEqual at count ends = absurd (cc)
accepted_least (p.Text quote) at count ends = absurd (cc)
accepted_least (p.Word word) at count ends = absurd (cc)
accepted_least p.Order at count ends = absurd (cc)
accepted_least p.Either at count ends = absurd (cc)
