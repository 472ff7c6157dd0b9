-- What characters a value is written as, before they are escaped, cut and padded. 'Simple Types' (text representation).
use Rattle.std.specs.Prelude.{ℕ, ◌/◌, List, Result, Ok, Err}
use Rattle.std.specs.Option.{ok_or}
use Rattle.std.specs.Str.{chars}
use Rattle.dfdl_forms.specs.declared.encoding.Encoding.{Encoding}
use Rattle.dfdl_forms.specs.declared.number.NumberForm.{NumberForm}
use Rattle.dfdl_forms.specs.declared.packed.ZonedForm.{ZonedForm}
use Rattle.dfdl_forms.specs.declared.text.TruthForm.{TruthForm}
use Rattle.dfdl_value.specs.declared.value.Value.{Value}
use Rattle.dfdl_value.specs.declared.value.Value.TheVariants as value
use Rattle.dfdl_text_string.specs.Truths.{written_truth}
use Rattle.dfdl_number_text.specs.Writing.{writing}
use Rattle.dfdl_packed.specs.Zoned.{zoned_writing}
use Rattle.dfdl_terms.specs.declared.text.TextContent.{TextContent}
use Rattle.dfdl_terms.specs.declared.text.TextContent.TheVariants.{Plain, Octets, Number, Zoned, Truth, Nil}
use Rattle.dfdl_writings.specs.declared.fault.Unwritten.{Unwritten}
use Rattle.dfdl_writings.specs.declared.fault.Unwritten.TheVariants.{TextForm, Boolean}
use Rattle.dfdl_writings.specs.declared.form.Room.{Room}
use Rattle.dfdl_writings.specs.declared.form.Room.TheVariants.{Bits, Characters, Open, Delimited}
use Rattle.dfdl_writings.specs.Rooms.{unit_bits}

-- the characters of a string, as they are
abbrev pub plain_characters : Value → Result (List ℕ) Unwritten
plain_characters (value.Text text) = Ok (chars text)
plain_characters _ = Err TextForm

-- the characters that the bytes of a hexBinary are in ISO-8859-1
abbrev pub octet_characters : Value → Result (List ℕ) Unwritten
octet_characters (value.Bytes bytes) = Ok bytes
octet_characters _ = Err TextForm

-- the characters of a number by its pattern or its base, where it has a text in the form
abbrev pub number_characters : NumberForm → Value → Result (List ℕ) Unwritten
number_characters form value = ok_or (writing form value) TextForm

-- how many digits a zoned number has at least: as many as its box has room for, else as many as its pattern has `0`
abbrev pub least_digits : Encoding → Room → ℕ → ℕ
least_digits encoding (Bits n) width = n / unit_bits encoding
least_digits encoding (Characters n) width = n
least_digits encoding Open width = width
least_digits encoding Delimited width = width

-- the digits of a zoned number, with leading zeros
abbrev pub zoned_characters : Encoding → Room → ZonedForm → Value → Result (List ℕ) Unwritten
zoned_characters encoding room form value =
    ok_or (zoned_writing (record form { width = least_digits encoding room form.width }) value) TextForm

-- the first text of a boolean
abbrev pub truth_characters : TruthForm → Value → Result (List ℕ) Unwritten
truth_characters form (value.Truth truth) = Ok (written_truth form truth)
truth_characters form _ = Err Boolean

-- The characters of a value, by what the characters of its content are read as. No value is written where nothing but nil is read.
abbrev pub characters : Encoding → Room → TextContent → Value → Result (List ℕ) Unwritten
characters encoding room Plain value = plain_characters value
characters encoding room Octets value = octet_characters value
characters encoding room (Number form kind) value = number_characters form value
characters encoding room (Zoned form) value = zoned_characters encoding room form value
characters encoding room (Truth form) value = truth_characters form value
characters encoding room (Nil form) value = Err TextForm
