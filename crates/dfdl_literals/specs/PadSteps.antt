-- Mirror for the prover: how the text of a pad character is read.
use Rattle.std.specs.Prelude.{ℕ, List, Option, Some, None, Bool, true, if◌then◌else◌}
use Rattle.std.specs.List.{list_any}
use Rattle.dfdl_literals.specs.Lists.{is_divider}
use Rattle.dfdl_literals.specs.SingleSteps.{found_text}
use Rattle.dfdl_forms.specs.declared.literals.Piece.{Piece}
use Rattle.dfdl_forms.specs.declared.literals.Piece.TheVariants.{Char, Byte, NewLine, Space, Spaces, MaybeSpaces, Nothing}
use Rattle.dfdl_literals.specs.declared.single.Found.{Found}
use Rattle.dfdl_literals.specs.declared.single.Found.TheVariants.{Blank, One, More}
use Rattle.dfdl_literals.specs.declared.pad.PadCharacter.{PadCharacter}
use Rattle.dfdl_literals.specs.declared.pad.PadCharacter.TheVariants.{Character, Malformed, Other}

-- what a literal of one piece stands for
abbrev pub pad_piece : Piece → PadCharacter
pad_piece (Char c) = Character c
pad_piece (Byte b) = Other
pad_piece NewLine = Other
pad_piece Space = Other
pad_piece Spaces = Other
pad_piece MaybeSpaces = Other
pad_piece Nothing = Other

-- what a text stands for by what its literals come to and whether it has white space
abbrev pub pad_found : Bool → Option Found → PadCharacter
pad_found spaced None = Malformed
pad_found spaced (Some Blank) = Other
pad_found spaced (Some (One piece)) = if spaced then Other else pad_piece piece
pad_found spaced (Some More) = Other

-- what a text is read as
abbrev pub pad_reading : List ℕ → PadCharacter
pad_reading text = pad_found (list_any is_divider text) (found_text true text)
