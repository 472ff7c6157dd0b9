-- What a text says of a simple type: its value, or why it has none.
use Rattle.std.specs.Prelude.{ℕ, Bool, ◌^◌, ◌&&◌, if◌then◌else◌, List, Option, Some, None, Result, Ok, Err, ℤ, pos, int_le, int_lt, unsigned_abs}
use Rattle.hex.specs.declared.error.FromHexError.{FromHexError}
use Rattle.hex.specs.Hex.{decode_of}
use Rattle.dfdl_forms.specs.declared.simple.Form.{Form}
use Rattle.dfdl_forms.specs.declared.simple.Form.TheVariants.{Signed, Unsigned, Fixed, Characters, Truths, Octets}
use Rattle.dfdl_forms.specs.declared.simple.Simple.{Simple}
use Rattle.dfdl_value.specs.declared.read.NoValue.{NoValue}
use Rattle.dfdl_value.specs.declared.read.NoValue.TheVariants.{NotAValue, PastType}
use Rattle.dfdl_value.specs.declared.value.Value.{Value}
use Rattle.dfdl_value.specs.declared.value.Value.TheVariants.{Int, Uns, Dec, Text, Truth, Bytes}
use Rattle.dfdl_decimal.specs.Decimal.{DecimalNumber, fixed_of}
use Rattle.dfdl_value.specs.Texts.{trimmed, integer_of, decimal_of, truth_of}
use Rattle.dfdl_forms.specs.Types.{form_of}
use Rattle.dfdl_value.specs.Types.{least_signed, greatest_signed}

-- what is read or why nothing is
abbrev pub Reading : Type 0
Reading = Result Value NoValue

-- what the number that a text writes, if it writes one, says of a signed type
abbrev pub signed_reading : ℕ → Option ℤ → Reading
signed_reading bits None = Err NotAValue
signed_reading bits (Some z) =
    if int_le (least_signed bits) z && int_le z (greatest_signed bits) then Ok (Int z)
    else Err PastType

-- and of an unsigned type
abbrev pub unsigned_reading : ℕ → Option ℤ → Reading
unsigned_reading bits None = Err NotAValue
unsigned_reading bits (Some z) =
    if int_le (pos 0) z && int_lt z (pos (2 ^ bits)) then Ok (Uns (unsigned_abs z))
    else Err PastType

-- of a decimal
abbrev pub fixed_reading : Option DecimalNumber → Reading
fixed_reading None = Err PastType
fixed_reading (Some d) = Ok (Dec d)

-- the decimal of a number, if it has a form
abbrev pub decimal_reading : Option DecimalNumber → Reading
decimal_reading None = Err NotAValue
decimal_reading (Some d) = fixed_reading (fixed_of d)

-- of a boolean
abbrev pub truth_reading : Option Bool → Reading
truth_reading None = Err NotAValue
truth_reading (Some b) = Ok (Truth b)

-- of hexBinary: an even number of hexadecimal digits in either case
abbrev pub bytes_reading : Result (List ℕ) FromHexError → Reading
bytes_reading (Err e) = Err NotAValue
bytes_reading (Ok bytes) = Ok (Bytes bytes)

-- what a text says of values of a form; white space at the ends is passed over, except in a string
abbrev pub form_reading : Form → List ℕ → Reading
form_reading (Signed bits) text = signed_reading bits (integer_of (trimmed text))
form_reading (Unsigned bits) text = unsigned_reading bits (integer_of (trimmed text))
form_reading Fixed text = decimal_reading (decimal_of (trimmed text))
form_reading Truths text = truth_reading (truth_of (trimmed text))
form_reading Octets text = bytes_reading (decode_of (trimmed text))
form_reading Characters text = Ok (Text text)

-- what a text says of a type
abbrev pub reading_of : Simple → List ℕ → Reading
reading_of kind text = form_reading (form_of kind) text
