-- How a component is written, beside what its rows say: its fill ('Framing', on fillByte), what stands for `%NL;` ('Framing', on
-- outputNewLine), the least length of its text and its escape scheme ('Simple Types'), and the value of a missing element ('DFDL Data Syntax
-- Grammar', on default values).
use Rattle.std.specs.Prelude.{ℕ, List, [], ◌∷◌, Bool, ◌&&◌, ◌||◌, ◌-◌, ◌^◌, min, Option, None, option_and_then, codes, if◌then◌else◌}
use Rattle.std.specs.Option.{unwrap_or}
use Rattle.std.specs.Str.{bytes_eq, chars}
use Rattle.std.specs.Str.Parse.{digits_value}
use Rattle.dfdl_forms.specs.declared.text.EscapeScheme.{EscapeScheme}
use Rattle.dfdl_literals.specs.Fills.{fill_reading}
use Rattle.dfdl_literals.specs.declared.fill.FillByte.{FillByte}
use Rattle.dfdl_literals.specs.declared.fill.FillByte.TheVariants.{Byte, Malformed, Other}
use Rattle.dfdl_value.specs.declared.value.Value.{Value as Content}
use Rattle.dfdl_terms.specs.declared.writing.Writing.{Writing}
use Rattle.dfdl_terms.specs.declared.writing.WritingForm.{WritingForm}
use Rattle.dfdl_escape_schemes.specs.Schemes.{no_scheme, scheme_named}
use Rattle.dfdl_scope.specs.Expressions.{is_expression, literal}
use Rattle.dfdl_scope.specs.Scoping.{Told, Value, Absent, Twice}
use Rattle.dfdl_checks.specs.Defaults.{value_of}
use Rattle.dfdl_checks.specs.Judged.{Judged}
use Rattle.dfdl_checks.specs.Pads.{is_padded}
use Rattle.dfdl_checks.specs.Subjects.{has_delimited_length, is_by_pattern, is_prefixed, is_string, is_text, is_unframed, told_at}
use Rattle.dfdl_checks.specs.Values.{is_number}
use Rattle.dfdl_checks.specs.declared.subject.Kind.{Kind}
use Rattle.dfdl_checks.specs.declared.subject.Kind.TheVariants.{SimpleElement}

-- the byte that a text of fill stands for, if it stands for one, else 0
abbrev pub byte_of : FillByte → ℕ
byte_of (Byte byte) = byte
byte_of Malformed = 0
byte_of Other = 0

-- the byte of fill that is told; 0 where none is
abbrev pub fill_told : Told → ℕ
fill_told (Value written) = if is_expression written then 0 else byte_of (fill_reading (chars (literal written)))
fill_told Absent = 0
fill_told (Twice place) = 0

-- the byte of the component's fill; what has no framing of its own has none, and 0 stands for it
abbrev pub fill_at : Judged → ℕ
fill_at subject = if is_unframed subject.kind then 0 else fill_told (told_at subject (codes "fillByte"))

-- the characters of a line break by the text that names them; LF where it names none
abbrev pub line_of : List ℕ → List ℕ
line_of text =
    if bytes_eq text (codes "%CR;%LF;") then 13 ∷ 10 ∷ []
    else if bytes_eq text (codes "%CR;") then 13 ∷ []
    else if bytes_eq text (codes "%NEL;") then 133 ∷ []
    else if bytes_eq text (codes "%LS;") then 8232 ∷ []
    else 10 ∷ []

-- the characters that are told of a line break; LF where none is
abbrev pub line_told : Told → List ℕ
line_told (Value written) = line_of (literal written)
line_told Absent = 10 ∷ []
line_told (Twice place) = 10 ∷ []

-- the number that digits stand for; past 64 bits the greatest number of these, and 0 where there are no digits
unfoldable pub least_of : List ℕ → ℕ
least_of text = if is_number text then min (digits_value 10 text) (2 ^ 64 - 1) else 0

-- the least length that is told of texts that are no strings; 0 where none is
abbrev pub least_told : Told → ℕ
least_told (Value written) = least_of (literal written)
least_told Absent = 0
least_told (Twice place) = 0

-- the least length of the component's text: that of the type of a string, and of every other text the one that is told
abbrev pub length_at : Judged → ℕ
length_at subject =
    if is_string subject.kind then unwrap_or subject.facts.min_length 0 else least_told (told_at subject (codes "textOutputMinLength"))

-- a text without a box of its own: of delimited length, with a length prefix or with a length by a pattern
abbrev pub is_open : Judged → Bool
is_open subject = is_text subject && (has_delimited_length subject || is_prefixed subject || is_by_pattern subject)

-- how many characters the component's text has at least, which pad characters make up; 0 where none are put on, or a box tells its length
abbrev pub least_at : Judged → ℕ
least_at subject = if is_open subject && is_padded subject then length_at subject else 0

-- the escape scheme of the component, where it is a text
abbrev pub scheme_at : Judged → EscapeScheme
scheme_at subject = if is_text subject then scheme_named subject.scheme else no_scheme

-- how the component's text is written
abbrev pub text_at : Judged → WritingForm
text_at subject = record {
  least = least_at subject;
  new_line = line_told (told_at subject (codes "outputNewLine"));
  scheme = scheme_at subject;
}

-- the value that a default of this text is at a component of a kind
abbrev pub default_of : Kind → Option (List ℕ) → Option Content
default_of (SimpleElement simple) default = option_and_then (value_of simple) default
default_of _ default = None

-- how the component is written
abbrev pub writing_of : Judged → Writing
writing_of subject = record {
  fill = fill_at subject;
  text = text_at subject;
  default = default_of subject.kind subject.facts.default;
}
