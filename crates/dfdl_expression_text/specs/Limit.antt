-- Mirror for the prover: how many tokens an expression has at least that goes on from a state, and the reader that refuses
-- what would have too many.
use Rattle.std.specs.Prelude.{◌≡◌, ℕ, ◌+◌, nat_le, Bool, true, false, if◌then◌else◌, Option, Some, None, is_some}
use Rattle.std.specs.Prelude.{List, [], ◌∷◌, drop, Result, Ok, Err}
use Rattle.dfdl_xml_chars.specs.Beyond.{Beyond}
use Rattle.dfdl_expression_text.specs.declared.kind.Kind.TheVariants as k
use Rattle.dfdl_expression_text.specs.declared.mark.Mark.{Mark}
use Rattle.dfdl_expression_text.specs.declared.mark.Mark.TheVariants.{Begin, Operand, Positive, Variable, Step, Closed}
use Rattle.dfdl_expression_text.specs.declared.mark.Frame.{Frame}
use Rattle.dfdl_expression_text.specs.declared.mark.Frame.TheVariants.{InGroup, InCall, InIndex, InCondition, InConsequent}
use Rattle.dfdl_expression_text.specs.declared.piece.Stage.TheVariants.{First}
use Rattle.dfdl_expression_text.specs.declared.piece.Piece.{Piece}
use Rattle.dfdl_expression_text.specs.declared.piece.Piece.TheVariants as p
use Rattle.dfdl_expression_text.specs.Syntax.{most_tokens}
use Rattle.dfdl_expression_text.specs.Machine.{At, State, next, step, refuse, beyond_names, beyond_piece}

-- the tokens that still come at least before what was opened ends, with those that end it
abbrev pub owed_frame : Frame → ℕ
owed_frame (InGroup b) = 1
owed_frame (InCall b) = 1
owed_frame (InIndex b) = 1
owed_frame InCondition = 5
owed_frame InConsequent = 2

abbrev pub owed_all : List Frame → ℕ
owed_all [] = 0
owed_all (f ∷ fs) = owed_frame f + owed_all fs

-- those that come before anything may end
abbrev pub owed_mark : Mark → ℕ
owed_mark Begin = 1
owed_mark (Operand b) = 1
owed_mark (Positive b) = 1
owed_mark (Variable b) = 1
owed_mark (Step b) = 1
owed_mark Closed = 4
owed_mark _ = 0

abbrev pub owed : At → ℕ
owed at = owed_mark at.mark + owed_all at.opened

abbrev pub passed : Bool → ℕ
passed true = 1
passed false = 0

-- the same behind the open piece, whose token has been counted
abbrev pub beside : Piece → At → ℕ
beside (p.Named stage) at = 0
beside p.Point at = 0
beside p.Either at = 1
beside _ at = owed_mark at.mark

-- what is open behind it; of `eq` and `else` the second closes something
abbrev pub left_open : Piece → At → List Frame
left_open p.Either at = drop (passed (is_some (next at k.Else))) at.opened
left_open _ at = at.opened

-- the tokens that an expression has at least which goes on from the state
abbrev pub least : State → ℕ
least s = (s.count + beside s.piece s.at) + owed_all (left_open s.piece s.at)

abbrev pub is_within : State → Bool
is_within s = nat_le (least s) most_tokens

-- the state, where no more tokens are owed than an expression has
abbrev pub limited : Result State ℕ → Result State ℕ
limited (Ok t) = if is_within t then Ok t else refuse
limited (Err m) = Err m

abbrev pub limited_step : State → ℕ → Result State ℕ
limited_step s c = limited (step s c)

abbrev pub if_room : Bool → Option At → Option At
if_room true o = o
if_room false o = None

-- where the token behind a name stands, if one more token may begin
abbrev pub room_for_name : State → Option At
room_for_name s = if_room (is_within (record { piece = p.Named First; at = s.at; count = s.count + 1 })) (next s.at k.Name)

-- what the place does with characters past ASCII
abbrev pub limited_by : Piece → State → Beyond
limited_by p.Ready s = beyond_names (room_for_name s)
limited_by p.MayEqual s = beyond_names (room_for_name s)
limited_by (p.Quoted quote) s = beyond_names (room_for_name s)
limited_by piece s = beyond_piece piece s.at

abbrev pub limited_beyond : State → Beyond
limited_beyond s = limited_by s.piece s
