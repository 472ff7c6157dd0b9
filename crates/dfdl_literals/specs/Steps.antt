-- Mirror for the prover: how a list of literals is read, character by character.
use Rattle.std.specs.Prelude.{ℕ, List, [], ◌∷◌, ◌++◌, length, Option, Some, None, Bool, true, false, ◌&&◌, if◌then◌else◌, ◌==◌, nat_lt}
use Rattle.std.specs.Option.{option_and_then}
use Rattle.dfdl_literals.specs.Names.{named, begins_name, is_empty_name}
use Rattle.dfdl_literals.specs.Lists.{is_divider, is_scalar, with_digit, closed}
use Rattle.dfdl_forms.specs.declared.literals.Piece.{Piece}
use Rattle.dfdl_forms.specs.declared.literals.Piece.TheVariants.{Char, Byte, Nothing}
use Rattle.dfdl_literals.specs.declared.Ending.{Ending}
use Rattle.dfdl_literals.specs.declared.Ending.TheVariants.{Ordinary, Doubled, Alone}
use Rattle.dfdl_literals.specs.declared.scan.Mark.{Mark}
use Rattle.dfdl_literals.specs.declared.scan.Mark.TheVariants.{Whole, Name, Hash, Decimal, Hex, Hexadecimal, Raw, RawHigh, RawByte}
use Rattle.dfdl_literals.specs.declared.scan.Act.{Act}
use Rattle.dfdl_literals.specs.declared.scan.Act.TheVariants.{Move, Add, Close, Letter}

-- what has been read: the literals that are ended, the pieces of the open one, the letters of a
-- name, and where it stands
pub record State : Type 0 where
  pub ended : List (List Piece)
  pub open_pieces : List Piece
  pub name : List ℕ
  pub mark : Mark

-- nothing has been read
abbrev pub start : State
start = record { ended = []; open_pieces = []; name = []; mark = Whole Ordinary }

-- what a character that begins an item does: % begins an entity, and each other stands for itself
abbrev pub act_plain : ℕ → Option Act
act_plain c = if c == 37 then Some (Move Name) else Some (Add (Char c) Ordinary)

-- what a character does behind a whole item: no ; stands behind %%, and nothing behind %ES;
abbrev pub act_behind : Ending → ℕ → Option Act
act_behind Ordinary c = act_plain c
act_behind Doubled c = if c == 59 then None else act_plain c
act_behind Alone c = None

-- what a character does where no entity is open: white space ends the literal
abbrev pub whole : Ending → ℕ → Option Act
whole before c = if is_divider c then Some Close else act_behind before c

-- what the ; behind a name does: the name stands for a piece, or it is ES where that may stand
abbrev pub entity : Bool → List ℕ → Option Piece → Option Act
entity alone name None = if alone && is_empty_name name then Some (Add Nothing Alone) else None
entity alone name (Some piece) = Some (Add piece Ordinary)

-- what a character does behind % and the letters of a name
abbrev pub in_name : Bool → List ℕ → ℕ → Option Act
in_name alone name c =
    if c == 59 then entity alone name (named name)
    else (if length name == 0
    then (if c == 37 then Some (Add (Char 37) Doubled)
    else (if c == 35 then Some (Move Hash) else Some (Letter c)))
    else Some (Letter c))

-- what a character does behind the digits of a code point: ; ends it, if it is a scalar value
abbrev pub code_end : ℕ → ℕ → Option Act
code_end n c =
    if c == 59 then (if is_scalar n then Some (Add (Char n) Ordinary) else None) else None

-- what a character does behind %#, where the digit that it is, is given
abbrev pub at_hash : Option ℕ → ℕ → Option Act
at_hash (Some n) c = Some (Move (Decimal n))
at_hash None c = if c == 120 then Some (Move Hex) else (if c == 114 then Some (Move Raw) else None)

-- what a character does behind decimal digits, where the number with it is given
abbrev pub in_decimal : Option ℕ → ℕ → ℕ → Option Act
in_decimal (Some m) n c = Some (Move (Decimal m))
in_decimal None n c = code_end n c

-- what a character does behind hexadecimal digits, where the number with it is given
abbrev pub in_hexadecimal : Option ℕ → ℕ → ℕ → Option Act
in_hexadecimal (Some m) n c = Some (Move (Hexadecimal m))
in_hexadecimal None n c = code_end n c

-- what the second digit of a raw byte does, where the number with it is given
abbrev pub raw_low : Option ℕ → Option Act
raw_low None = None
raw_low (Some m) = if nat_lt m 256 then Some (Move (RawByte m)) else None

-- what a character does at a mark
abbrev pub act : Bool → List ℕ → Mark → ℕ → Option Act
act alone name (Whole before) c = whole before c
act alone name Name c = in_name alone name c
act alone name Hash c = at_hash (with_digit 10 0 c) c
act alone name (Decimal n) c = in_decimal (with_digit 10 n c) n c
act alone name Hex c = option_and_then (λ n. Some (Move (Hexadecimal n))) (with_digit 16 0 c)
act alone name (Hexadecimal n) c = in_hexadecimal (with_digit 16 n c) n c
act alone name Raw c = option_and_then (λ n. Some (Move (RawHigh n))) (with_digit 16 0 c)
act alone name (RawHigh n) c = raw_low (with_digit 16 n c)
act alone name (RawByte n) c = if c == 59 then Some (Add (Byte n) Ordinary) else None

-- what a list comes to by an act
abbrev pub acted : State → Act → Option State
acted s (Move mark) = Some (record s { mark = mark })
acted s (Add piece before) =
    Some (record {
      ended = s.ended;
      open_pieces = s.open_pieces ++ piece ∷ [];
      name = [];
      mark = Whole before;
    })
acted s Close =
    Some (record {
      ended = closed s.ended s.open_pieces;
      open_pieces = [];
      name = [];
      mark = Whole Ordinary;
    })
acted s (Letter c) =
    if begins_name (s.name ++ c ∷ [])
    then Some (record {
      ended = s.ended;
      open_pieces = s.open_pieces;
      name = s.name ++ c ∷ [];
      mark = Name;
    })
    else None

-- what a list comes to by a character, if it can go on by it
abbrev pub step : Bool → State → ℕ → Option State
step empty_allowed s c =
    option_and_then (acted s) (act (empty_allowed && (length s.open_pieces == 0)) s.name s.mark c)

-- no entity is open
abbrev pub accepts_mark : Mark → Bool
accepts_mark (Whole before) = true
accepts_mark Name = false
accepts_mark Hash = false
accepts_mark (Decimal n) = false
accepts_mark Hex = false
accepts_mark (Hexadecimal n) = false
accepts_mark Raw = false
accepts_mark (RawHigh n) = false
accepts_mark (RawByte n) = false

-- the list may end here
abbrev pub accepts : State → Bool
accepts s = accepts_mark s.mark
