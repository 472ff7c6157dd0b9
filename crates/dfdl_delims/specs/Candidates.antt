-- Mirror for the prover: what may still follow some bytes of a text, and how one byte more changes that.
use Rattle.std.specs.Prelude.{◌≡◌, ℕ, ◌+◌, ◌-◌, ◌<◌, List, [], ◌∷◌, ◌++◌, take, drop, Option, Some, None, Bool, true, false, ◌&&◌, ◌||◌, ◌==◌, not, if◌then◌else◌}
use Rattle.std.specs.List.{list_any, list_all}
use Rattle.dfdl_forms.specs.declared.encoding.Encoding.{Encoding}
use Rattle.dfdl_forms.specs.declared.literals.Piece.{Piece}
use Rattle.dfdl_forms.specs.declared.literals.Piece.TheVariants.{Char, Byte, NewLine, Space, Spaces, MaybeSpaces, Nothing}
use Rattle.dfdl_chars.specs.Encodings.{encoded_of, encoded_text}
use Rattle.dfdl_literal_texts.specs.Texts.{after_any, after_bytes, is_text, other_case, spaces, white_space}
use Rattle.dfdl_delims.specs.declared.left.Left.{Left}
use Rattle.dfdl_delims.specs.declared.left.Left.TheVariants.{Done, One, Two, Three}
use Rattle.dfdl_delims.specs.declared.candidate.Candidate.{Candidate}

-- the bytes that are left of a character
abbrev pub left_bytes : Left → List ℕ
left_bytes Done = []
left_bytes (One a) = a ∷ []
left_bytes (Two a b) = a ∷ b ∷ []
left_bytes (Three a b c) = a ∷ b ∷ c ∷ []

-- the bytes begin with those that are left, and behind them stand bytes of the rest; of none if nothing is left to follow
abbrev pub after_left : Option Left → (List ℕ → Bool) → List ℕ → Bool
after_left None is_rest bytes = false
after_left (Some left) is_rest bytes = after_bytes (left_bytes left) is_rest bytes

-- these bytes as what is left; no text has more of them
abbrev pub left_of : List ℕ → Option Left
left_of [] = Some Done
left_of (a ∷ []) = Some (One a)
left_of (a ∷ b ∷ []) = Some (Two a b)
left_of (a ∷ b ∷ c ∷ []) = Some (Three a b c)
left_of (a ∷ b ∷ c ∷ d ∷ more) = None

-- what is left of a text behind its first byte
abbrev pub left_behind : Option (List ℕ) → ℕ → Option Left
left_behind None byte = None
left_behind (Some []) byte = None
left_behind (Some (a ∷ text)) byte = if a == byte then left_of text else None

-- what is left behind one byte more
abbrev pub left_then : Left → ℕ → Option Left
left_then left byte = left_behind (Some (left_bytes left)) byte

-- the pieces from a place on
abbrev pub pieces_from : List Piece → ℕ → ℕ → List Piece
pieces_from pieces at end = take (end - at) (drop at pieces)

-- the piece at the place, and those behind it
abbrev pub IsNext : List Piece → ℕ → ℕ → Option Piece → Type 0
IsNext pieces at end None = pieces_from pieces at end ≡ []
IsNext pieces at end (Some piece) = (at < end) × (pieces_from pieces at end ≡ piece ∷ pieces_from pieces (at + 1) end)

-- the bytes are white space, where it loops, and then a text of the pieces
abbrev pub is_tail : Encoding → Bool → Bool → List Piece → List ℕ → Bool
is_tail encoding fold true pieces = after_any encoding spaces (is_text encoding fold pieces)
is_tail encoding fold false pieces = is_text encoding fold pieces

-- the same for the pieces that a candidate has before it
abbrev pub is_tail_of : List Piece → Candidate → List ℕ → Bool
is_tail_of pieces candidate = is_tail candidate.encoding candidate.fold candidate.loops (pieces_from pieces candidate.at candidate.end)

-- the bytes complete a text
abbrev pub completes : List Piece → Candidate → List ℕ → Bool
completes pieces candidate bytes = after_bytes (left_bytes candidate.left) (is_tail_of pieces candidate) bytes

-- the bytes complete a text of the list at the place
abbrev pub completes_at : List Piece → ℕ → List ℕ → Candidate → Bool
completes_at pieces place bytes candidate = (candidate.list == place) && completes pieces candidate bytes

-- the bytes complete a text of the list at the place, for one of the candidates
unfoldable pub complete : List Piece → ℕ → List Candidate → List ℕ → Bool
complete pieces place candidates bytes = list_any (completes_at pieces place bytes) candidates

-- what passes a test is what passed before and what was added
abbrev pub Adds : List Candidate → List Candidate → List Candidate → Type 0
Adds old added new = (test : Candidate → Bool) → list_any test new ≡ (list_any test old || list_any test added)

-- a candidate with so much left, if anything
unfoldable pub begun : Option Left → Candidate → List Candidate
begun None next = []
begun (Some left) next = record next { left = left } ∷ []

-- the candidates behind the first byte of one of these characters
unfoldable pub begun_each : List ℕ → ℕ → Candidate → List Candidate
begun_each [] byte next = []
begun_each (c ∷ characters) byte next = begun (left_behind (encoded_of next.encoding c) byte) next ++ begun_each characters byte next

-- a character in its cases
abbrev pub cases : Bool → ℕ → List ℕ
cases true c = c ∷ other_case c ∷ []
cases false c = c ∷ []

-- the line breaks of one character
unfoldable pub line_ends : List ℕ
line_ends = 0xA ∷ 0xD ∷ 0x85 ∷ 0x2028 ∷ []

-- the candidates behind the first byte of a line break
unfoldable pub begun_line_break : ℕ → Candidate → List Candidate
begun_line_break byte next =
    begun (left_behind (encoded_text next.encoding (0xD ∷ 0xA ∷ [])) byte) next ++ begun_each line_ends byte next

-- the candidates behind the first byte of a piece
unfoldable pub begun_piece : Piece → ℕ → Candidate → List Candidate
begun_piece (Char c) byte next = begun_each (cases next.fold c) byte next
begun_piece (Byte b) byte next = begun (left_behind (Some (b ∷ [])) byte) next
begun_piece NewLine byte next = begun_line_break byte next
begun_piece Space byte next = begun_each white_space byte next
begun_piece Spaces byte next = begun_each white_space byte (record next { loops = true })
begun_piece MaybeSpaces byte next = begun_each white_space byte (record next { loops = true })
begun_piece Nothing byte next = []

-- the piece can stand for nothing
abbrev pub passes : Piece → Bool
passes (Char c) = false
passes (Byte b) = false
passes NewLine = false
passes Space = false
passes Spaces = false
passes MaybeSpaces = true
passes Nothing = true

-- the candidate at its next piece
abbrev pub further : Candidate → Candidate
further candidate = record candidate { at = candidate.at + 1 }

-- the candidates behind the first byte of the pieces that a candidate has before it
unfoldable pub begun_from : List Piece → ℕ → Candidate → List Candidate
begun_from [] byte candidate = []
begun_from (piece ∷ pieces) byte candidate =
    begun_piece piece byte (further candidate) ++ (if passes piece then begun_from pieces byte (further candidate) else [])

-- the same where white space may come before
unfoldable pub begun_loop : Bool → ℕ → Candidate → List Candidate
begun_loop true byte candidate = begun_each white_space byte candidate
begun_loop false byte candidate = []

-- the candidates that one comes to by a byte
unfoldable pub stepped : List Piece → ℕ → Left → Candidate → List Candidate
stepped pieces byte Done candidate =
    begun_loop candidate.loops byte candidate
    ++ begun_from (pieces_from pieces candidate.at candidate.end) byte (record candidate { loops = false })
stepped pieces byte left candidate = begun (left_then left byte) candidate

-- the candidates that these come to by a byte
unfoldable pub step : List Piece → ℕ → List Candidate → List Candidate
step pieces byte [] = []
step pieces byte (candidate ∷ candidates) = stepped pieces byte candidate.left candidate ++ step pieces byte candidates

-- What passes a test is what passed at first and all that is to be added, where the rest of that is still to be added.
abbrev pub Adding : List Candidate → List Candidate → List Candidate → List Candidate → Type 0
Adding old all now rest = (test : Candidate → Bool) → (list_any test now || list_any test rest) ≡ (list_any test old || list_any test all)

-- there is a text
abbrev pub is_there : Option (List ℕ) → Bool
is_there None = false
is_there (Some text) = true

-- the encoding has one of the characters
abbrev pub has_one : Encoding → List ℕ → Bool
has_one encoding characters = list_any (λ c. is_there (encoded_of encoding c)) characters

-- the piece has a text
abbrev pub has_text : Encoding → Bool → Piece → Bool
has_text encoding fold (Char c) = has_one encoding (cases fold c)
has_text encoding fold (Byte b) = true
has_text encoding fold NewLine = true
has_text encoding fold Space = true
has_text encoding fold Spaces = true
has_text encoding fold MaybeSpaces = true
has_text encoding fold Nothing = true

-- each of the pieces has a text
unfoldable pub have_texts : Encoding → Bool → List Piece → Bool
have_texts encoding fold pieces = list_all (has_text encoding fold) pieces

-- nothing completes a text
abbrev pub is_dead : List Piece → Candidate → Bool
is_dead pieces candidate = not (have_texts candidate.encoding candidate.fold (pieces_from pieces candidate.at candidate.end))

-- none of the candidates is dead
unfoldable pub some_dead : List Piece → List Candidate → Bool
some_dead pieces candidates = list_any (is_dead pieces) candidates

-- the piece stands for nothing
abbrev pub is_nothing : Piece → Bool
is_nothing (Char c) = false
is_nothing (Byte b) = false
is_nothing NewLine = false
is_nothing Space = false
is_nothing Spaces = false
is_nothing MaybeSpaces = false
is_nothing Nothing = true

-- no byte is left
abbrev pub is_done : Left → Bool
is_done Done = true
is_done (One a) = false
is_done (Two a b) = false
is_done (Three a b c) = false

-- all bytes of a text were seen
abbrev pub is_whole : List Piece → Candidate → Bool
is_whole pieces candidate = is_done candidate.left && list_all passes (pieces_from pieces candidate.at candidate.end)

-- a text has more bytes, if the candidate isn't dead
abbrev pub has_more : List Piece → Candidate → Bool
has_more pieces candidate =
    not (is_done candidate.left) || (candidate.loops || not (list_all is_nothing (pieces_from pieces candidate.at candidate.end)))
