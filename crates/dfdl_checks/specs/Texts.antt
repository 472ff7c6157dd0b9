-- How the values of a component without a breach lie in the data, where it is a text or of type hexBinary ('Simple Types', on
-- text representation and on hexBinary).
use Rattle.std.specs.Prelude.{ℕ, List, Bool, false, not, ◌&&◌, ◌*◌, Option, Some, None, option_and_then, option_map, codes, if◌then◌else◌}
use Rattle.dfdl_forms.specs.declared.encoding.Encoding.{Encoding}
use Rattle.dfdl_forms.specs.declared.encoding.Encoding.TheVariants.{Iso88591}
use Rattle.dfdl_forms.specs.declared.order.BitOrder.{BitOrder}
use Rattle.dfdl_escape_schemes.specs.Schemes.{marks_named, no_marks}
use Rattle.dfdl_escape_schemes.specs.declared.marks.EscapeMarks.{EscapeMarks}
use Rattle.dfdl_forms.specs.declared.text.Justify.{Justify}
use Rattle.dfdl_forms.specs.declared.text.Justify.TheVariants.{Left, Right, Center}
use Rattle.dfdl_forms.specs.declared.text.PadForm.{PadForm}
use Rattle.dfdl_forms.specs.Types.{form_of}
use Rattle.dfdl_forms.specs.declared.number.NumberForm.{NumberForm}
use Rattle.dfdl_forms.specs.declared.simple.Form.{Form}
use Rattle.dfdl_forms.specs.declared.simple.Simple.{Simple}
use Rattle.dfdl_scope.specs.Scoping.{Told}
use Rattle.dfdl_terms.specs.declared.text.ScanForm.{ScanForm}
use Rattle.dfdl_terms.specs.declared.text.TextContent.{TextContent}
use Rattle.dfdl_terms.specs.declared.text.TextContent.TheVariants.{Plain, Octets as TextOctets, Number, Zoned, Truth}
use Rattle.dfdl_terms.specs.declared.row.Primitive.{Primitive}
use Rattle.dfdl_terms.specs.declared.row.Primitive.TheVariants.{Octets, Text}
use Rattle.dfdl_terms.specs.declared.text.TextSize.{TextSize}
use Rattle.dfdl_terms.specs.declared.text.TextSize.TheVariants.{Bits, Characters, Delimited}
use Rattle.dfdl_checks.specs.Boxes.{box_bits, box_unit, box_units, is_in_characters}
use Rattle.dfdl_checks.specs.Encodings.{encoding_told}
use Rattle.dfdl_checks.specs.Judged.{Judged}
use Rattle.dfdl_checks.specs.Orders.{field_order}
use Rattle.dfdl_checks.specs.BooleanTexts.{truth_form_of}
use Rattle.dfdl_checks.specs.NumberTexts.{number_form_of, zoned_form_of}
use Rattle.dfdl_checks.specs.Pads.{is_padded, is_trimmed, name_by, pad_at, used_where}
use Rattle.dfdl_checks.specs.Subjects.{has_delimited_length, is_characters, is_string, is_text_number, is_told, is_truths, is_word, told_at}
use Rattle.dfdl_checks.specs.declared.subject.Kind.{Kind}

-- a place at which no character can be decoded is replaced, as it is where nothing is told
abbrev pub is_replaced : Told → Bool
is_replaced told = not (is_word (codes "error") told)

-- the property that gives the side at which such texts stand
abbrev pub justify_name : Kind → List ℕ
justify_name kind = name_by kind (codes "textStringJustification") (codes "textBooleanJustification") (codes "textNumberJustification")

-- the side that is told; left where none is, and right of a number
abbrev pub justify_told : Bool → Told → Justify
justify_told is_number told =
    if is_word (codes "right") told then Right
    else if is_word (codes "center") told then Center
    else if is_word (codes "left") told then Left
    else if is_number then Right
    else Left

-- how the component's text stands in its box: a string alone may be cut, and a number alone keeps one zero of nothing but zeros
abbrev pub pad_of : Judged → PadForm
pad_of subject = record {
  justify = justify_told (is_text_number subject) (told_at subject (justify_name subject.kind));
  pad = used_where (is_padded subject) (pad_at subject);
  trim = used_where (is_trimmed subject) (pad_at subject);
  truncate = is_string subject.kind && is_told subject (codes "truncateSpecifiedLengthString") (codes "yes");
  keeps_zero = is_text_number subject;
}

-- so many units of a text, which are characters or have so many bits
abbrev pub size_in : Bool → ℕ → ℕ → TextSize
size_in are_characters unit n = if are_characters then Characters n else Bits (n * unit)

-- how long the component's text is in its box, where that isn't past the greatest length
abbrev pub boxed_size : Judged → Option TextSize
boxed_size subject = option_map (size_in (is_in_characters subject) (box_unit subject)) (box_units subject)

-- the pad character that trimming takes off at the left, of a text that stands at this side
abbrev pub lead_by : Justify → Option ℕ → Option ℕ
lead_by Left trim = None
lead_by Right trim = trim
lead_by Center trim = trim

-- how a content of delimited length is scanned: by the characters of its escape scheme, the pad character that trimming takes off at
-- the left, its encoding, and whether a place at which no character can be decoded is replaced
abbrev pub scan_by : EscapeMarks → Option ℕ → Encoding → Bool → ScanForm
scan_by marks lead encoding replaces = record {
  kind = marks.kind;
  escape = marks.escape;
  escape_escape = marks.escape_escape;
  start = marks.start;
  end = marks.end;
  lead = lead;
  encoding = encoding;
  replaces = replaces;
}

-- the component's text is replaced where no character can be decoded
abbrev pub replaces_at : Judged → Bool
replaces_at subject = is_replaced (told_at subject (codes "encodingErrorPolicy"))

-- how the component's text of delimited length is scanned in this encoding: by the characters of the escape scheme that it names
abbrev pub scan_of : Judged → Encoding → ScanForm
scan_of subject encoding =
    scan_by (marks_named subject.scheme) (lead_by (pad_of subject).justify (pad_of subject).trim) encoding (replaces_at subject)

-- how long the component's text is in this encoding: as far as it is scanned, where its length is delimited, else as its box is
abbrev pub text_size : Judged → Encoding → Option TextSize
text_size subject encoding = if has_delimited_length subject then Some (Delimited (scan_of subject encoding)) else boxed_size subject

-- a number of the type in this form
abbrev pub number_text : Simple → NumberForm → TextContent
number_text simple form = Number form simple

-- what the component's characters are read as, by the form of its type's values
abbrev pub content_by : Form → Judged → Simple → Option TextContent
content_by form subject simple =
    if is_characters form then Some Plain
    else if is_truths form then option_map Truth (truth_form_of subject)
    else if is_told subject (codes "textNumberRep") (codes "zoned") then option_map Zoned (zoned_form_of subject simple)
    else option_map (number_text simple) (number_form_of subject)

-- what the component's characters are read as, as values of the type
abbrev pub content_of : Judged → Simple → Option TextContent
content_of subject simple = content_by (form_of simple) subject simple

-- a text in this encoding, of this size, which is read as this
abbrev pub text_by : Encoding → Bool → Option TextSize → PadForm → Option TextContent → Option Primitive
text_by encoding replaces (Some size) pad (Some content) =
    Some (Text (record { encoding = encoding; replaces = replaces; size = size; pad = pad; content = content }))
text_by encoding replaces _ pad _ = None

-- the component's values as texts in this encoding
abbrev pub text_in : Judged → Simple → Encoding → Option Primitive
text_in subject simple encoding =
    text_by encoding (replaces_at subject) (text_size subject encoding) (pad_of subject) (content_of subject simple)

-- the component's values as texts
abbrev pub text_of : Judged → Simple → Option Primitive
text_of subject simple = option_and_then (text_in subject simple) (encoding_told (told_at subject (codes "encoding")))

-- bytes in this order of bits, in a box of so many
abbrev pub octets_by : BitOrder → ℕ → Primitive
octets_by bits_by bits = Octets (record { bits = bits; bits_by = bits_by })

-- no pad character is put on or taken off
abbrev pub no_pad : PadForm
no_pad = record { justify = Left; pad = None; trim = None; truncate = false; keeps_zero = false }

-- bytes of delimited length: characters of ISO-8859-1, each of which is a byte; no escape scheme is theirs
abbrev pub delimited_octets : Primitive
delimited_octets =
    Text (record {
      encoding = Iso88591;
      replaces = false;
      size = Delimited (scan_by no_marks None Iso88591 false);
      pad = no_pad;
      content = TextOctets;
    })

-- the component's values as bytes
abbrev pub octets_of : Judged → Option Primitive
octets_of subject =
    if has_delimited_length subject then Some delimited_octets
    else option_map (octets_by (field_order subject)) (box_bits subject)
