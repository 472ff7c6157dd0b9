-- What the text of a fill byte stands for.
use Rattle.std.specs.Prelude.{ℕ, List, [], ◌∷◌, Option, Some, None, Bool, true, false, nat_lt, if◌then◌else◌}
use Rattle.std.specs.List.{list_any}
use Rattle.dfdl_literals.specs.Lists.{is_divider}
use Rattle.dfdl_literals.specs.Readings.{literals_reading}
use Rattle.dfdl_forms.specs.declared.literals.Piece.{Piece}
use Rattle.dfdl_forms.specs.declared.literals.Piece.TheVariants.{Char, Byte, NewLine, Space, Spaces, MaybeSpaces, Nothing}
use Rattle.dfdl_literals.specs.declared.fill.FillByte.{FillByte}
use Rattle.dfdl_literals.specs.declared.fill.FillByte.TheVariants.{Byte as Filled, Malformed, Other}

-- a raw byte, or the byte of a character of ASCII
abbrev pub fill_piece : Piece → FillByte
fill_piece (Char c) = if nat_lt c 128 then Filled c else Other
fill_piece (Byte b) = Filled b
fill_piece NewLine = Other
fill_piece Space = Other
fill_piece Spaces = Other
fill_piece MaybeSpaces = Other
fill_piece Nothing = Other

-- what one literal stands for: one piece
abbrev pub fill_literal : List Piece → FillByte
fill_literal [] = Other
fill_literal (piece ∷ []) = fill_piece piece
fill_literal (piece ∷ next ∷ pieces) = Other

-- what a list stands for: one literal
abbrev pub fill_list : List (List Piece) → FillByte
fill_list [] = Other
fill_list (literal ∷ []) = fill_literal literal
fill_list (literal ∷ next ∷ list) = Other

-- what the text stands for by whether it has white space and its literals
abbrev pub fill_told : Bool → Option (List (List Piece)) → FillByte
fill_told spaced None = Malformed
fill_told true (Some list) = Other
fill_told false (Some list) = fill_list list

-- what a text is read as
unfoldable pub fill_reading : List ℕ → FillByte
fill_reading text = fill_told (list_any is_divider text) (literals_reading false text)
