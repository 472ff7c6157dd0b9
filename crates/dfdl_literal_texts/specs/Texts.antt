-- Which bytes a literal stands for in an encoding. 'DFDL Syntax Basics' (DFDL String Literals).
use Rattle.std.specs.Prelude.{ℕ, zero, suc, ◌+◌, ◌-◌, List, [], ◌∷◌, length, map, Option, Some, None, Bool, true, false, ◌&&◌, ◌||◌, ◌==◌, nat_le, if◌then◌else◌}
use Rattle.std.specs.List.{list_any}
use Rattle.dfdl_forms.specs.declared.encoding.Encoding.{Encoding}
use Rattle.dfdl_forms.specs.declared.literals.Piece.{Piece}
use Rattle.dfdl_forms.specs.declared.literals.Piece.TheVariants.{Char, Byte, NewLine, Space, Spaces, MaybeSpaces, Nothing}
use Rattle.dfdl_chars.specs.Encodings.{encoded_text}

-- the bytes begin with these, and behind them stand bytes of the rest
abbrev pub after_bytes : List ℕ → (List ℕ → Bool) → List ℕ → Bool
after_bytes [] is_rest bytes = is_rest bytes
after_bytes (b ∷ front) is_rest [] = false
after_bytes (b ∷ front) is_rest (c ∷ bytes) = (b == c) && after_bytes front is_rest bytes

-- the same of the bytes of a text; of one with a character that the encoding lacks there are none
abbrev pub after_encoded : Option (List ℕ) → (List ℕ → Bool) → List ℕ → Bool
after_encoded None is_rest bytes = false
after_encoded (Some front) is_rest bytes = after_bytes front is_rest bytes

-- the bytes begin with one of these texts, and behind it stand bytes of the rest
unfoldable pub after_one : Encoding → List (List ℕ) → (List ℕ → Bool) → List ℕ → Bool
after_one encoding texts is_rest bytes = list_any (λ text. after_encoded (encoded_text encoding text) is_rest bytes) texts

-- the same of none, one or more of them one after the other, at most so many
unfoldable pub after_most : Encoding → List (List ℕ) → ℕ → (List ℕ → Bool) → List ℕ → Bool
after_most encoding texts zero is_rest bytes = is_rest bytes
after_most encoding texts (suc more) is_rest bytes =
    is_rest bytes || after_one encoding texts (after_most encoding texts more is_rest) bytes

-- the same of any number of them; none of them is empty
abbrev pub after_any : Encoding → List (List ℕ) → (List ℕ → Bool) → List ℕ → Bool
after_any encoding texts is_rest bytes = after_most encoding texts (length bytes) is_rest bytes

-- a text of one character for each of these
abbrev pub one_each : List ℕ → List (List ℕ)
one_each characters = map (λ c. c ∷ []) characters

-- the white space characters (profile)
unfoldable pub white_space : List ℕ
white_space =
    0x9 ∷ 0xA ∷ 0xB ∷ 0xC ∷ 0xD ∷ 0x20 ∷ 0x85 ∷ 0xA0 ∷ 0x1680 ∷ 0x180E ∷ 0x2000 ∷ 0x2001 ∷ 0x2002 ∷ 0x2003 ∷ 0x2004 ∷ 0x2005
    ∷ 0x2006 ∷ 0x2007 ∷ 0x2008 ∷ 0x2009 ∷ 0x200A ∷ 0x2028 ∷ 0x2029 ∷ 0x202F ∷ 0x205F ∷ 0x3000 ∷ []

-- the texts of a white space character
unfoldable pub spaces : List (List ℕ)
spaces = one_each white_space

-- the texts of a line break
unfoldable pub line_breaks : List (List ℕ)
line_breaks = (0xD ∷ 0xA ∷ []) ∷ one_each (0xA ∷ 0xD ∷ 0x85 ∷ 0x2028 ∷ [])

-- an upper case letter of ASCII
abbrev pub is_upper : ℕ → Bool
is_upper c = nat_le 65 c && nat_le c 90

-- a lower case letter of ASCII
abbrev pub is_lower : ℕ → Bool
is_lower c = nat_le 97 c && nat_le c 122

-- a letter of ASCII in its other case, and any other character
abbrev pub other_case : ℕ → ℕ
other_case c = if is_upper c then c + 32 else if is_lower c then c - 32 else c

-- the texts of a character: where an ASCII letter stands for its other case too, that is one of them
abbrev pub cases_of : Bool → ℕ → List (List ℕ)
cases_of true c = (c ∷ []) ∷ (other_case c ∷ []) ∷ []
cases_of false c = (c ∷ []) ∷ []

-- the bytes begin with those of a piece, and behind them stand bytes of the rest
unfoldable pub after_piece : Encoding → Bool → Piece → (List ℕ → Bool) → List ℕ → Bool
after_piece encoding fold (Char c) is_rest bytes = after_one encoding (cases_of fold c) is_rest bytes
after_piece encoding fold (Byte b) is_rest bytes = after_bytes (b ∷ []) is_rest bytes
after_piece encoding fold NewLine is_rest bytes = after_one encoding line_breaks is_rest bytes
after_piece encoding fold Space is_rest bytes = after_one encoding spaces is_rest bytes
after_piece encoding fold Spaces is_rest bytes = after_one encoding spaces (after_any encoding spaces is_rest) bytes
after_piece encoding fold MaybeSpaces is_rest bytes = after_any encoding spaces is_rest bytes
after_piece encoding fold Nothing is_rest bytes = is_rest bytes

-- there are no bytes
abbrev pub is_none : List ℕ → Bool
is_none bytes = length bytes == 0

-- the bytes are a text of the literal of these pieces
unfoldable pub is_text : Encoding → Bool → List Piece → List ℕ → Bool
is_text encoding fold [] bytes = is_none bytes
is_text encoding fold (piece ∷ pieces) bytes = after_piece encoding fold piece (is_text encoding fold pieces) bytes

-- the bytes are a text of one of the literals
abbrev pub is_text_of_some : Encoding → Bool → List (List Piece) → List ℕ → Bool
is_text_of_some encoding fold literals bytes = list_any (λ pieces. is_text encoding fold pieces bytes) literals

-- the bytes are one or more of a character
abbrev pub is_repeated : Encoding → Bool → ℕ → List ℕ → Bool
is_repeated encoding fold c bytes = after_one encoding (cases_of fold c) (after_any encoding (cases_of fold c) is_none) bytes
