-- What the characters of a text number are read as.
use Rattle.std.specs.Prelude.{ℕ, ◌+◌, ◌*◌, ◌&&◌, Bool, true, false, nat_lt, List, length, fold, Option, Some, None, option_and_then, Result, Ok, Err, pos, if◌then◌else◌}
use Rattle.std.specs.Char.{digit_value}
use Rattle.std.specs.List.{list_all}
use Rattle.dfdl_decimal.specs.Decimal.{DecimalNumber}
use Rattle.dfdl_value.specs.ReadValues.{Reading}
use Rattle.dfdl_value.specs.Numbers.{number_reading}
use Rattle.dfdl_forms.specs.Types.{form_of}
use Rattle.dfdl_value.specs.declared.read.NoValue.{NoValue}
use Rattle.dfdl_value.specs.declared.read.NoValue.TheVariants.{NotAValue, PastType as PastTypeOfValue}
use Rattle.dfdl_forms.specs.declared.simple.Form.{Form}
use Rattle.dfdl_forms.specs.declared.simple.Form.TheVariants.{Signed, Unsigned}
use Rattle.dfdl_forms.specs.declared.simple.Simple.{Simple}
use Rattle.dfdl_value.specs.declared.value.Value.{Value}
use Rattle.dfdl_forms.specs.declared.number.NumberForm.{NumberForm}
use Rattle.dfdl_forms.specs.declared.number_pattern.NumberPattern.{NumberPattern}
use Rattle.dfdl_number_text.specs.declared.fault.NumberFault.{NumberFault}
use Rattle.dfdl_number_text.specs.declared.fault.NumberFault.TheVariants.{NotANumber, PastType}
use Rattle.dfdl_number_text.specs.Body.{between, body_number}

-- the fault of a text number
abbrev pub fault_of : NoValue → NumberFault
fault_of NotAValue = NotANumber
fault_of PastTypeOfValue = PastType

-- a value or a fault of a text number
abbrev pub of_value : Reading → Result Value NumberFault
of_value (Ok value) = Ok value
of_value (Err fault) = Err (fault_of fault)

-- what a number, if there is one, says of values of a form
abbrev pub number_if : Form → Option DecimalNumber → Result Value NumberFault
number_if kind None = Err NotANumber
number_if kind (Some number) = of_value (number_reading kind number)

-- the first number that there is
abbrev pub or_else : Option DecimalNumber → Option DecimalNumber → Option DecimalNumber
or_else None other = other
or_else (Some number) other = Some number

-- the number that stands between a prefix and a suffix
abbrev pub signed_number : NumberForm → NumberPattern → Bool → List ℕ → List ℕ → List ℕ → Option DecimalNumber
signed_number form pattern negative prefix suffix text = option_and_then (body_number form pattern negative) (between prefix suffix text)

-- the number by a pattern: that between the positive prefix and suffix, else that between the negative ones
abbrev pub pattern_number : NumberForm → NumberPattern → List ℕ → Option DecimalNumber
pattern_number form pattern text =
    or_else (signed_number form pattern false pattern.prefix pattern.suffix text)
    (signed_number form pattern true pattern.negative_prefix pattern.negative_suffix text)

-- the number of plain digits in a base, of which there is at least one
abbrev pub base_number : ℕ → List ℕ → Option ℕ
base_number base text =
    if nat_lt 0 (length text) && list_all (λ c. nat_lt (digit_value c) base) text
    then Some (fold (λ n c. n * base + digit_value c) 0 text)
    else None

-- the whole number that a base's digits write
abbrev pub whole_if : Option ℕ → Option DecimalNumber
whole_if None = None
whole_if (Some n) = Some (record { mantissa = pos n; scale = 0 })

-- what plain digits of a base say of values of a form: only integers have them
abbrev pub base_reading : ℕ → Form → List ℕ → Result Value NumberFault
base_reading base (Signed bits) text = number_if (Signed bits) (whole_if (base_number base text))
base_reading base (Unsigned bits) text = number_if (Unsigned bits) (whole_if (base_number base text))
base_reading base _ text = Err NotANumber

-- by the pattern, or by the base where there is none
abbrev pub reading_by : NumberForm → Option NumberPattern → Form → List ℕ → Result Value NumberFault
reading_by form (Some pattern) kind text = number_if kind (pattern_number form pattern text)
reading_by form None kind text = base_reading form.base kind text

-- what characters are read as, in a form and of a type
abbrev pub reading : NumberForm → Simple → List ℕ → Result Value NumberFault
reading form kind text = reading_by form form.pattern (form_of kind) text
