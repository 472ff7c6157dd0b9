-- What a literal of a schema is written as. 'DFDL Syntax Basics' (DFDL String Literals).
use Rattle.std.specs.Prelude.{ℕ, ◌+◌, List, [], ◌∷◌, length, Option, Some}
use Rattle.dfdl_chars.specs.Encodings.{encoded_text, joined}
use Rattle.dfdl_forms.specs.declared.encoding.Encoding.{Encoding}
use Rattle.dfdl_forms.specs.declared.literals.Piece.{Piece}
use Rattle.dfdl_forms.specs.declared.literals.Piece.TheVariants.{Char, Byte, NewLine, Space, Spaces, MaybeSpaces, Nothing}

-- the characters of a piece of a literal: `%NL;` is this line break, one white space character or more are one space, and none or more
-- are none; a raw byte counts as one character
abbrev pub piece_characters : List ℕ → Piece → List ℕ
piece_characters new_line (Char c) = c ∷ []
piece_characters new_line (Byte b) = b ∷ []
piece_characters new_line NewLine = new_line
piece_characters new_line Space = 32 ∷ []
piece_characters new_line Spaces = 32 ∷ []
piece_characters new_line MaybeSpaces = []
piece_characters new_line Nothing = []

-- the bytes of a piece of a literal, if the encoding has its characters
abbrev pub piece_bytes : Encoding → List ℕ → Piece → Option (List ℕ)
piece_bytes encoding new_line (Byte b) = Some (b ∷ [])
piece_bytes encoding new_line (Char c) = encoded_text encoding (c ∷ [])
piece_bytes encoding new_line NewLine = encoded_text encoding new_line
piece_bytes encoding new_line Space = encoded_text encoding (32 ∷ [])
piece_bytes encoding new_line Spaces = encoded_text encoding (32 ∷ [])
piece_bytes encoding new_line MaybeSpaces = Some []
piece_bytes encoding new_line Nothing = Some []

-- the bytes of a literal
unfoldable pub literal_bytes : Encoding → List ℕ → List Piece → Option (List ℕ)
literal_bytes encoding new_line [] = Some []
literal_bytes encoding new_line (piece ∷ pieces) =
    joined (piece_bytes encoding new_line piece) (literal_bytes encoding new_line pieces)

-- how many characters a literal has
unfoldable pub literal_count : List ℕ → List Piece → ℕ
literal_count new_line [] = 0
literal_count new_line (piece ∷ pieces) = length (piece_characters new_line piece) + literal_count new_line pieces

-- the first literal of a list; where there is none, one without pieces
abbrev pub first_literal : List (List Piece) → List Piece
first_literal [] = []
first_literal (pieces ∷ others) = pieces
