-- Zoned numbers. 'Simple Types' (textNumberRep, textZonedSignStyle).
use Rattle.std.specs.Prelude.{ℕ, ◌+◌, ◌-◌, ◌*◌, ◌==◌, ◌&&◌, ℤ, unsigned_abs, Bool, true, false, nat_lt, nat_le, max, List, [], ◌∷◌, ◌++◌, length, take, slice_index, map, fold, Option, Some, None, Result, Err, if◌then◌else◌}
use Rattle.std.specs.Char.{is_ascii_digit}
use Rattle.std.specs.List.{list_all}
use Rattle.dfdl_forms.specs.Types.{form_of}
use Rattle.dfdl_forms.specs.declared.simple.Form.{Form}
use Rattle.dfdl_forms.specs.declared.simple.Form.TheVariants.{Unsigned}
use Rattle.dfdl_value.specs.declared.value.Value.{Value}
use Rattle.dfdl_packed.specs.declared.fault.PackedFault.{PackedFault}
use Rattle.dfdl_packed.specs.declared.fault.PackedFault.TheVariants.{BadNibble}
use Rattle.dfdl_forms.specs.declared.packed.ZonedForm.{ZonedForm}
use Rattle.dfdl_forms.specs.declared.packed.ZonedStyle.{ZonedStyle}
use Rattle.dfdl_forms.specs.declared.packed.ZonedStyle.TheVariants.{AsciiStandard, TranslatedEbcdic}
use Rattle.dfdl_packed.specs.Digits.{padded_digits, digit_count}
use Rattle.dfdl_packed.specs.Packed.{is_negative}
use Rattle.dfdl_packed.specs.Typed.{value_in, integer_in}

-- the digits `0` to `9`
abbrev pub are_plain : List ℕ → Bool
are_plain chars = list_all is_ascii_digit chars

-- a number with plain digits behind it
abbrev pub number_behind : ℕ → List ℕ → ℕ
number_behind n chars = fold (λ n char. n * 10 + (char - 48)) n chars

-- a digit counted from a first character, with a sign, if it is one of count characters
abbrev pub counted_from : ℕ → ℕ → ℕ → Bool → ℕ → Option (Bool × ℕ)
counted_from first count digit negative char =
    if nat_le first char && nat_lt char (first + count) then Some (negative, char - first + digit) else None

-- the first, if it is there, else the second
abbrev pub or_else : Option (Bool × ℕ) → Option (Bool × ℕ) → Option (Bool × ℕ)
or_else None other = other
or_else (Some found) other = Some found

-- the sign and digit of the character that carries the sign: `0` to `9`, and `p` to `y` negative, or `{`, `A` to `I`,
-- and `}`, `J` to `R` negative
abbrev pub sign_digit : ZonedStyle → ℕ → Option (Bool × ℕ)
sign_digit AsciiStandard char = or_else (counted_from 48 10 0 false char) (counted_from 112 10 0 true char)
sign_digit TranslatedEbcdic char =
    or_else (counted_from 48 10 0 false char)
    (or_else (counted_from 123 1 0 false char)
    (or_else (counted_from 65 9 1 false char)
    (or_else (counted_from 125 1 0 true char) (counted_from 74 9 1 true char))))

-- the digits before and behind the one with the sign
abbrev pub number_around : List ℕ → Option (Bool × ℕ) → List ℕ → Option (Bool × ℕ)
number_around before None behind = None
number_around before (Some signed) behind =
    if are_plain before && are_plain behind
    then Some (signed.0, number_behind (number_behind 0 before * 10 + signed.1) behind)
    else None

-- the sign and the size that characters are read as
abbrev pub zoned_number : ZonedForm → List ℕ → Option (Bool × ℕ)
zoned_number form [] = None
zoned_number form (char ∷ chars) =
    let all = char ∷ chars in
    if form.first then number_around [] (sign_digit form.style char) chars
    else number_around (take (length chars) all) (sign_digit form.style (slice_index all (length chars))) []

-- the value of a sign and a size, if they are there
abbrev pub zoned_value_if : ZonedForm → Option (Bool × ℕ) → Result Value PackedFault
zoned_value_if form None = Err BadNibble
zoned_value_if form (Some number) = value_in (form_of form.kind) form.point number.0 number.1

-- what characters are read as
abbrev pub zoned_reading : ZonedForm → List ℕ → Result Value PackedFault
zoned_reading form chars = zoned_value_if form (zoned_number form chars)

-- ---- writing

-- the character of a digit that carries no sign
abbrev pub plain_char : ℕ → ℕ
plain_char digit = 48 + digit

-- the character of a digit that carries a sign
abbrev pub sign_char : ZonedStyle → Bool → ℕ → ℕ
sign_char AsciiStandard false digit = 48 + digit
sign_char AsciiStandard true digit = 112 + digit
sign_char TranslatedEbcdic false digit = if digit == 0 then 123 else 64 + digit
sign_char TranslatedEbcdic true digit = if digit == 0 then 125 else 73 + digit

-- unsigned types have plain digits alone
abbrev pub char_in : Form → ZonedStyle → Bool → ℕ → ℕ
char_in (Unsigned bits) style negative digit = plain_char digit
char_in _ style negative digit = sign_char style negative digit

-- digits with a sign in the first or the last of them
abbrev pub signed_chars : Form → ZonedForm → Bool → List ℕ → List ℕ
signed_chars kind form negative [] = []
signed_chars kind form negative (digit ∷ digits) =
    let all = digit ∷ digits in
    if form.first then char_in kind form.style negative digit ∷ map plain_char digits
    else map plain_char (take (length digits) all) ++ char_in kind form.style negative (slice_index all (length digits)) ∷ []

-- the characters of a number, if it is there
abbrev pub chars_if : ZonedForm → Option ℤ → Option (List ℕ)
chars_if form None = None
chars_if form (Some z) =
    let size = unsigned_abs z in
    Some (signed_chars (form_of form.kind) form (is_negative z) (padded_digits (max form.width (digit_count 79 size)) size))

-- what characters a value is written as: at least as many digits as the form's width, with zeros at the front
abbrev pub zoned_writing : ZonedForm → Value → Option (List ℕ)
zoned_writing form value = chars_if form (integer_in (form_of form.kind) form.point value)
