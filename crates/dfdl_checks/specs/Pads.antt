-- The pad characters of texts ('Simple Types', on textStringPadCharacter, textNumberPadCharacter, textBooleanPadCharacter,
-- textPadKind and textTrimKind), and the side at which a text stands.
use Rattle.std.specs.Prelude.{ℕ, List, Bool, true, false, nat_lt, not, ◌&&◌, ◌||◌, Option, Some, None, codes, if◌then◌else◌}
use Rattle.std.specs.Str.{chars}
use Rattle.dfdl_forms.specs.declared.encoding.Encoding.{Encoding}
use Rattle.dfdl_forms.specs.declared.encoding.Encoding.TheVariants.{Utf8, UsAscii, Iso88591, Utf16Be, Utf16Le}
use Rattle.dfdl_literals.specs.PadSteps.{pad_reading}
use Rattle.dfdl_literals.specs.declared.pad.PadCharacter.{PadCharacter}
use Rattle.dfdl_literals.specs.declared.pad.PadCharacter.TheVariants.{Character, Malformed, Other}
use Rattle.dfdl_scope.specs.Expressions.{is_expression, literal}
use Rattle.dfdl_scope.specs.Scoping.{Told, Value, Absent, Twice}
use Rattle.dfdl_checks.specs.Encodings.{encoding_told}
use Rattle.dfdl_checks.specs.Judged.{Judged}
use Rattle.dfdl_checks.specs.Subjects.{is_boolean, is_string, is_text, is_told, told_at}
use Rattle.dfdl_checks.specs.declared.subject.Kind.{Kind}

-- pad characters are taken off
abbrev pub is_trimmed : Judged → Bool
is_trimmed subject = is_told subject (codes "textTrimKind") (codes "padChar")

-- pad characters are put on
abbrev pub is_padded : Judged → Bool
is_padded subject = is_told subject (codes "textPadKind") (codes "padChar")

-- a text of which pad characters are taken off, or to which they are put
abbrev pub is_padded_text : Judged → Bool
is_padded_text subject = is_text subject && (is_trimmed subject || is_padded subject)

-- one of three names, of a property of strings, of booleans and of numbers
abbrev pub name_by : Kind → List ℕ → List ℕ → List ℕ → List ℕ
name_by kind of_strings of_booleans of_numbers =
    if is_string kind then of_strings else if is_boolean kind then of_booleans else of_numbers

-- the property that gives the pad character of such texts
abbrev pub pad_name : Kind → List ℕ
pad_name kind = name_by kind (codes "textStringPadCharacter") (codes "textBooleanPadCharacter") (codes "textNumberPadCharacter")

-- what the text of a character that is told stands for; this character where none is told. An expression stands for none.
abbrev pub character_told : ℕ → Told → PadCharacter
character_told otherwise (Value written) = if is_expression written then Other else pad_reading (chars (literal written))
character_told otherwise Absent = Character otherwise
character_told otherwise (Twice place) = Other

-- the pad character of the component, a space where none is told
abbrev pub pad_at : Judged → PadCharacter
pad_at subject = character_told 32 (told_at subject (pad_name subject.kind))

-- the character, where the text stands for one
abbrev pub single : PadCharacter → Option ℕ
single (Character c) = Some c
single Malformed = None
single Other = None

-- the text is no string literal and no list of them
abbrev pub is_malformed : PadCharacter → Bool
is_malformed (Character c) = false
is_malformed Malformed = true
is_malformed Other = false

-- the text is made of literals that are no single character
abbrev pub is_other : PadCharacter → Bool
is_other (Character c) = false
is_other Malformed = false
is_other Other = true

-- a character is told by a text that is no expression, and that is made of literals which are no single character
abbrev pub is_other_told : Told → Bool
is_other_told (Value written) = not (is_expression written) && is_other (pad_reading (chars (literal written)))
is_other_told Absent = false
is_other_told (Twice place) = false

-- the encoding has the character
abbrev pub has_character : Encoding → ℕ → Bool
has_character Utf8 c = true
has_character UsAscii c = nat_lt c 128
has_character Iso88591 c = nat_lt c 256
has_character Utf16Be c = true
has_character Utf16Le c = true

-- the encoding lacks the character, where both are told
abbrev pub lacks_character : Option Encoding → Option ℕ → Bool
lacks_character None character = false
lacks_character (Some encoding) None = false
lacks_character (Some encoding) (Some c) = not (has_character encoding c)

-- the component's encoding lacks a character
abbrev pub is_outside : Judged → PadCharacter → Bool
is_outside subject character = lacks_character (encoding_told (told_at subject (codes "encoding"))) (single character)

-- the component's encoding lacks its pad character
abbrev pub is_pad_outside : Judged → Bool
is_pad_outside subject = is_outside subject (pad_at subject)

-- the character, where it is used
abbrev pub used_where : Bool → PadCharacter → Option ℕ
used_where is_used pad = if is_used then single pad else None
