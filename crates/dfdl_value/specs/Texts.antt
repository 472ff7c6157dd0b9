-- Texts of numbers, byte by byte: white space at the ends, signs and digits.
use Rattle.std.specs.Prelude.{ℕ, ◌+◌, ◌-◌, ◌*◌, Bool, true, false, nat_lt, length, ◌&&◌, ◌||◌, ◌==◌, if◌then◌else◌, List, [], ◌∷◌, Option, Some, None, ◌++◌, ℤ, codes}
use Rattle.std.specs.Char.{is_ascii_digit}
use Rattle.std.specs.List.{list_all, before_first, after_first}
use Rattle.std.specs.Str.{bytes_eq}
use Rattle.dfdl_lemmas.specs.Trimmed.{without_leading, without_trailing}
use Rattle.dfdl_decimal.specs.Decimal.{DecimalNumber, with_sign}

-- white space of XML: a space, a tab, a line feed or a carriage return
abbrev pub is_xml_space : ℕ → Bool
is_xml_space c = (c == 32) || (c == 9) || (c == 10) || (c == 13)

-- the text with the white space at its ends passed over
abbrev pub trimmed : List ℕ → List ℕ
trimmed text = without_trailing is_xml_space (without_leading is_xml_space text)

-- the text begins with '-'
abbrev pub is_negative : List ℕ → Bool
is_negative [] = false
is_negative (c ∷ cs) = c == 45

-- the text without a '+' or '-' that it begins with
abbrev pub unsigned_part : List ℕ → List ℕ
unsigned_part [] = []
unsigned_part (c ∷ cs) = if (c == 43) || (c == 45) then cs else c ∷ cs

-- one ASCII digit or more, and nothing else
abbrev pub is_numeral : List ℕ → Bool
is_numeral text = nat_lt 0 (length text) && list_all is_ascii_digit text

-- the number that digits write behind those of n
abbrev pub number_after : ℕ → List ℕ → ℕ
number_after n [] = n
number_after n (c ∷ cs) = number_after (n * 10 + (c - 48)) cs

-- the number that digits write
abbrev pub number_of : List ℕ → ℕ
number_of digits = number_after 0 digits

-- the number that an integer's text writes, an optional sign and a numeral of any length
abbrev pub integer_of : List ℕ → Option ℤ
integer_of text =
    if is_numeral (unsigned_part text)
    then Some (with_sign (is_negative text) (number_of (unsigned_part text))) else None

-- the digit zero
abbrev pub is_zero : ℕ → Bool
is_zero c = c == 48

-- a decimal point
abbrev pub is_point : ℕ → Bool
is_point c = c == 46

-- the digits before the point and those after it
abbrev pub whole_part : List ℕ → List ℕ
whole_part text = before_first is_point (unsigned_part text)

-- the digits behind the point
abbrev pub fraction_part : List ℕ → List ℕ
fraction_part text = after_first is_point (unsigned_part text)

-- the number that a decimal's text writes: an optional sign, and digits with at most one point
-- before, between or after them
abbrev pub decimal_of : List ℕ → Option DecimalNumber
decimal_of text = let digits = whole_part text ++ fraction_part text in
    if is_numeral digits
    then Some (record {
      mantissa = with_sign (is_negative text) (number_of digits);
      scale = length (fraction_part text);
    })
    else None

-- what a boolean's text says
abbrev pub truth_of : List ℕ → Option Bool
truth_of text = if bytes_eq text (codes "true") || bytes_eq text (codes "1") then Some true
    else if bytes_eq text (codes "false") || bytes_eq text (codes "0") then Some false
    else None
