-- What stands for nil in the data of an element ('DFDL Data Syntax Grammar', on nilKind and nilValue).
use Rattle.std.specs.Prelude.{ℕ, List, Bool, true, false, not, ◌&&◌, ◌||◌, Option, Some, None, is_some, option_map, codes, if◌then◌else◌}
use Rattle.std.specs.List.{list_any}
use Rattle.std.specs.Option.{option_map_or, option_or}
use Rattle.std.specs.Str.{chars}
use Rattle.dfdl_forms.specs.declared.encoding.Encoding.{Encoding}
use Rattle.dfdl_forms.specs.declared.literals.Piece.{Piece}
use Rattle.dfdl_forms.specs.declared.literals.Piece.TheVariants.{Char, Byte, NewLine, Space, Spaces, MaybeSpaces, Nothing}
use Rattle.dfdl_literals.specs.Fills.{fill_reading}
use Rattle.dfdl_literals.specs.PadSteps.{pad_reading}
use Rattle.dfdl_literals.specs.Readings.{literals_reading}
use Rattle.dfdl_literals.specs.declared.fill.FillByte.{FillByte}
use Rattle.dfdl_literals.specs.declared.fill.FillByte.TheVariants as fills
use Rattle.dfdl_literals.specs.declared.pad.PadCharacter.{PadCharacter}
use Rattle.dfdl_literals.specs.declared.pad.PadCharacter.TheVariants as pads
use Rattle.dfdl_scope.specs.Expressions.{is_expression, literal}
use Rattle.dfdl_scope.specs.Scoping.{Told, Value, Absent, Twice}
use Rattle.dfdl_terms.specs.declared.text.NilForm.{NilForm}
use Rattle.dfdl_terms.specs.declared.text.NilTexts.{NilTexts}
use Rattle.dfdl_terms.specs.declared.text.NilTexts.TheVariants as nils
use Rattle.dfdl_checks.specs.Encodings.{encoding_told}
use Rattle.dfdl_checks.specs.Judged.{Judged}
use Rattle.dfdl_checks.specs.Pads.{is_malformed, is_other, is_outside, lacks_character, single}
use Rattle.dfdl_checks.specs.Subjects.{is_explicit, is_nillable, is_text, is_told, told_at}

-- nil is one of some literals
abbrev pub is_nil_by_literals : Judged → Bool
is_nil_by_literals subject = is_nillable subject && is_told subject (codes "nilKind") (codes "literalValue")

-- nil is one or more of a character, or of a byte
abbrev pub is_nil_by_character : Judged → Bool
is_nil_by_character subject = is_nillable subject && is_told subject (codes "nilKind") (codes "literalCharacter")

-- nil is the value of some literals
abbrev pub is_nil_by_value : Judged → Bool
is_nil_by_value subject = is_nillable subject && is_told subject (codes "nilKind") (codes "logicalValue")

-- the literals of nil that are told, where they are some; `%ES;` may be one
abbrev pub literals_told : Told → Option (List (List Piece))
literals_told (Value written) = literals_reading true (chars (literal written))
literals_told Absent = None
literals_told (Twice place) = None

-- the literals of nil at the component
abbrev pub nil_literals : Judged → Option (List (List Piece))
nil_literals subject = literals_told (told_at subject (codes "nilValue"))

-- literals of nil are told by a text that is no expression, and that is no list of literals
abbrev pub are_literals_malformed : Told → Bool
are_literals_malformed (Value written) = not (is_expression written) && not (is_some (literals_told (Value written)))
are_literals_malformed Absent = false
are_literals_malformed (Twice place) = false

-- what the text of the character of nil stands for; an expression, and nothing, stand for none
abbrev pub nil_character_told : Told → PadCharacter
nil_character_told (Value written) = if is_expression written then pads.Other else pad_reading (chars (literal written))
nil_character_told Absent = pads.Other
nil_character_told (Twice place) = pads.Other

-- the character of nil at the component
abbrev pub nil_character : Judged → PadCharacter
nil_character subject = nil_character_told (told_at subject (codes "nilValue"))

-- the byte that a text stands for, if it is one
abbrev pub byte_in : FillByte → Option ℕ
byte_in (fills.Byte byte) = Some byte
byte_in fills.Malformed = None
byte_in fills.Other = None

-- the raw byte that a text is, by the character and by the byte that it stands for: a raw byte is no character
abbrev pub raw_byte : PadCharacter → FillByte → Option ℕ
raw_byte (pads.Character c) byte = None
raw_byte pads.Malformed byte = None
raw_byte pads.Other byte = byte_in byte

-- the raw byte that the text of the character of nil is, if it is one
abbrev pub nil_byte_told : Told → Option ℕ
nil_byte_told (Value written) =
    if is_expression written then None else raw_byte (pad_reading (chars (literal written))) (fill_reading (chars (literal written)))
nil_byte_told Absent = None
nil_byte_told (Twice place) = None

-- the raw byte of nil at the component; a text has none
abbrev pub nil_byte : Judged → Option ℕ
nil_byte subject = if is_text subject then None else nil_byte_told (told_at subject (codes "nilValue"))

-- an element that may be nil, whose texts of nil are no list of literals
abbrev pub is_nil_malformed : Judged → Bool
is_nil_malformed subject =
    ((is_nil_by_literals subject || is_nil_by_value subject) && are_literals_malformed (told_at subject (codes "nilValue")))
    || (is_nil_by_character subject && is_malformed (nil_character subject))

-- the encoding lacks a piece that is a character
abbrev pub lacks_piece : Option Encoding → Piece → Bool
lacks_piece encoding (Char c) = lacks_character encoding (Some c)
lacks_piece encoding (Byte b) = false
lacks_piece encoding NewLine = false
lacks_piece encoding Space = false
lacks_piece encoding Spaces = false
lacks_piece encoding MaybeSpaces = false
lacks_piece encoding Nothing = false

-- the encoding lacks a character of the literals
abbrev pub lacks_literals : Option Encoding → List (List Piece) → Bool
lacks_literals encoding literals = list_any (λ pieces. list_any (lacks_piece encoding) pieces) literals

-- the component's encoding lacks a character of its literals of nil
abbrev pub are_literals_outside : Judged → Bool
are_literals_outside subject =
    option_map_or (lacks_literals (encoding_told (told_at subject (codes "encoding")))) (nil_literals subject) false

-- an element that may be nil, whose encoding lacks a character of its texts of nil
abbrev pub is_nil_not_encoded : Judged → Bool
is_nil_not_encoded subject =
    (is_nil_by_literals subject && are_literals_outside subject)
    || (is_nil_by_character subject && is_outside subject (nil_character subject))

-- the length is the component's own or that of its type
abbrev pub is_length_fixed : Judged → Bool
is_length_fixed subject = is_explicit subject || is_told subject (codes "lengthKind") (codes "implicit")

-- nil is told by what is no single character, and no raw byte where the content is no text
abbrev pub is_nil_other : Judged → Bool
is_nil_other subject = is_other (nil_character subject) && not (is_some (nil_byte subject))

-- nil by such, or by a character or a byte where the length is neither the element's own nor that of its type
abbrev pub is_nil_unfit : Judged → Bool
is_nil_unfit subject = is_nil_by_character subject && (is_nil_other subject || not (is_length_fixed subject))

-- nil by a character, else by a byte
abbrev pub texts_by : Option ℕ → Option ℕ → Option NilTexts
texts_by character byte = option_or (option_map nils.Character character) (option_map nils.Byte byte)

-- the texts of nil at the component
abbrev pub nil_texts : Judged → Option NilTexts
nil_texts subject =
    if is_nil_by_literals subject then option_map nils.Literals (nil_literals subject)
    else if is_nil_by_character subject then texts_by (single (nil_character subject)) (nil_byte subject)
    else None

-- nil by these texts in an encoding, where both are told; with `fold` ASCII letters match in both cases
abbrev pub nil_form_by : Option NilTexts → Option Encoding → Bool → Option NilForm
nil_form_by (Some texts) (Some encoding) fold = Some (record { texts = texts; encoding = encoding; fold = fold })
nil_form_by _ _ fold = None

-- how nil lies in the data of an element that may be nil
abbrev pub nil_form_of : Judged → Option NilForm
nil_form_of subject =
    nil_form_by (nil_texts subject) (encoding_told (told_at subject (codes "encoding"))) (is_told subject (codes "ignoreCase") (codes "yes"))
