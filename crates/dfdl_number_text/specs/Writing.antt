-- What characters a value is written as.
use Rattle.std.specs.Prelude.{ℕ, ◌*◌, ◌/◌, ◌%◌, ◌^◌, ◌==◌, ◌&&◌, Bool, not, max, nat_lt, List, [], ◌∷◌, ◌++◌, length, take, drop, map, Option, Some, None, option_map, option_and_then, pos, int_lt, unsigned_abs, if◌then◌else◌}
use Rattle.dfdl_decimal.specs.Decimal.{DecimalNumber}
use Rattle.dfdl_value.specs.Texts.{is_zero}
use Rattle.dfdl_lemmas.specs.Trimmed.{without_trailing}
use Rattle.dfdl_value.specs.declared.value.Value.{Value}
use Rattle.dfdl_value.specs.declared.value.Value.TheVariants.{Int, Uns, Dec, Text, Truth, Bytes}
use Rattle.dfdl_forms.specs.declared.number.NumberForm.{NumberForm}
use Rattle.dfdl_forms.specs.declared.number.Rounding.{Rounding}
use Rattle.dfdl_forms.specs.declared.number_pattern.NumberPattern.{NumberPattern}
use Rattle.dfdl_forms.specs.declared.number_pattern.Point.{Point}
use Rattle.dfdl_forms.specs.declared.number_pattern.Point.TheVariants.{Absent, Written, Implied}
use Rattle.dfdl_number_text.specs.Digits.{digits_at, digit_count, digit_character}
use Rattle.dfdl_number_text.specs.Rounding.{rounded}

-- the number of a value, if it is one
abbrev pub number_of_value : Value → Option DecimalNumber
number_of_value (Int z) = Some (record { mantissa = z; scale = 0 })
number_of_value (Uns n) = Some (record { mantissa = pos n; scale = 0 })
number_of_value (Dec d) = Some d
number_of_value (Text t) = None
number_of_value (Truth b) = None
number_of_value (Bytes b) = None

-- a number is below zero
abbrev pub is_below_zero : DecimalNumber → Bool
is_below_zero number = int_lt number.mantissa (pos 0)

-- how many fraction digits a number is rounded to, or has behind the implied decimal point
abbrev pub places_of : NumberPattern → Point → ℕ
places_of pattern Absent = 0
places_of pattern Written = pattern.greatest_fraction
places_of pattern Implied = pattern.implied

-- the size of a number times ten to the power of `places`, rounded, or whole where the decimal point is implied
abbrev pub size_at : Rounding → Point → ℕ → DecimalNumber → Option ℕ
size_at mode Implied places number =
    if unsigned_abs number.mantissa * 10 ^ places % 10 ^ number.scale == 0
    then Some (unsigned_abs number.mantissa * 10 ^ places / 10 ^ number.scale)
    else None
size_at mode _ places number = rounded mode (is_below_zero number) (unsigned_abs number.mantissa * 10 ^ places) (10 ^ number.scale)

-- Digits with a separator behind each one that has a whole number of groups behind it.
abbrev pub grouped : ℕ → ℕ → List ℕ → List ℕ
grouped separator group [] = []
grouped separator group (digit ∷ rest) =
    if not (group == 0) && (nat_lt 0 (length rest) && (length rest % group == 0))
    then digit ∷ (separator ∷ grouped separator group rest)
    else digit ∷ grouped separator group rest

-- the integer digits: at least so many, and none for 0 by itself
abbrev pub integer_digits : ℕ → ℕ → List ℕ
integer_digits least n = map digit_character (digits_at 10 (max least (digit_count 10 39 n)) n)

-- the fraction digits: the zeros at the end are left away down to the least number of digits
abbrev pub fraction_digits : ℕ → ℕ → ℕ → List ℕ
fraction_digits least places n =
    let digits = map digit_character (digits_at 10 places n) in
    take least digits ++ without_trailing is_zero (drop least digits)

-- the fraction digits of a number of this size
abbrev pub written_fraction : NumberPattern → Point → ℕ → List ℕ
written_fraction pattern Absent size = []
written_fraction pattern Written size = fraction_digits pattern.least_fraction pattern.greatest_fraction size
written_fraction pattern Implied size = map digit_character (digits_at 10 pattern.implied size)

-- How many integer digits are written at least, in front of so many fraction digits: as many as the pattern has zeros,
-- and one where it has a sign for integer digits or where no fraction digit is written.
abbrev pub least_digits : NumberPattern → ℕ → ℕ
least_digits pattern fraction =
    if pattern.greatest_integer == 0 && nat_lt 0 fraction then 0 else max 1 pattern.least_integer

-- fraction digits behind the decimal separator, which stands in front of digits, and where the pattern has no sign behind it
abbrev pub with_separator : ℕ → ℕ → List ℕ → List ℕ
with_separator places decimal (digit ∷ digits) = decimal ∷ (digit ∷ digits)
with_separator places decimal [] = if places == 0 then decimal ∷ [] else []

-- what stands behind the integer digits, where these are the fraction digits
abbrev pub behind_integer : NumberForm → NumberPattern → Point → List ℕ → List ℕ
behind_integer form pattern Absent fraction = []
behind_integer form pattern Written fraction = with_separator pattern.greatest_fraction form.decimal fraction
behind_integer form pattern Implied fraction = fraction

-- the integer digits with their separators, in front of so many fraction digits
abbrev pub in_front : NumberForm → NumberPattern → ℕ → ℕ → List ℕ
in_front form pattern fraction whole = grouped form.grouping pattern.group_size (integer_digits (least_digits pattern fraction) whole)

-- the body of a number of this size, which counts the last fraction digit
abbrev pub body_text : NumberForm → NumberPattern → ℕ → List ℕ
body_text form pattern size =
    in_front form pattern (length (written_fraction pattern pattern.point size)) (size / 10 ^ places_of pattern pattern.point)
    ++ behind_integer form pattern pattern.point (written_fraction pattern pattern.point size)

-- the body between the prefix and the suffix; a number that was rounded to zero is positive
abbrev pub signed_text : NumberForm → NumberPattern → Bool → ℕ → List ℕ
signed_text form pattern negative size =
    if negative && not (size == 0)
    then pattern.negative_prefix ++ (body_text form pattern size ++ pattern.negative_suffix)
    else pattern.prefix ++ (body_text form pattern size ++ pattern.suffix)

-- the text of a number by a pattern
abbrev pub pattern_text : NumberForm → NumberPattern → DecimalNumber → Option (List ℕ)
pattern_text form pattern number =
    option_map (signed_text form pattern (is_below_zero number)) (size_at form.rounding pattern.point (places_of pattern pattern.point) number)

-- plain digits of a base, at least one
abbrev pub base_digits : ℕ → ℕ → List ℕ
base_digits base n = map digit_character (digits_at base (max 1 (digit_count base 128 n)) n)

-- the text of a value in a base: only integers have one, and none below zero
abbrev pub base_text : ℕ → Value → Option (List ℕ)
base_text base (Int z) = if int_lt z (pos 0) then None else Some (base_digits base (unsigned_abs z))
base_text base (Uns n) = Some (base_digits base n)
base_text base _ = None

-- by the pattern, or by the base where there is none
abbrev pub writing_by : NumberForm → Option NumberPattern → Value → Option (List ℕ)
writing_by form (Some pattern) value = option_and_then (pattern_text form pattern) (number_of_value value)
writing_by form None value = base_text form.base value

-- what characters a value is written as, if it has a text in the form
abbrev pub writing : NumberForm → Value → Option (List ℕ)
writing form value = writing_by form form.pattern value
