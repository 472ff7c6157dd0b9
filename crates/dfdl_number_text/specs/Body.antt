-- The body of a text number: what stands between its prefix and its suffix.
use Rattle.std.specs.Prelude.{ℕ, ◌+◌, ◌-◌, ◌==◌, ◌&&◌, Bool, true, false, nat_lt, nat_le, List, [], ◌∷◌, ◌++◌, length, take, drop, filter, Option, Some, None, if◌then◌else◌}
use Rattle.std.specs.Char.{is_ascii_digit}
use Rattle.std.specs.List.{list_all, before_first, after_first}
use Rattle.std.specs.Str.{bytes_eq}
use Rattle.dfdl_decimal.specs.Decimal.{DecimalNumber, with_sign}
use Rattle.dfdl_value.specs.Texts.{number_of}
use Rattle.dfdl_forms.specs.declared.number.NumberForm.{NumberForm}
use Rattle.dfdl_forms.specs.declared.number_pattern.NumberPattern.{NumberPattern}
use Rattle.dfdl_forms.specs.declared.number_pattern.Point.{Point}
use Rattle.dfdl_forms.specs.declared.number_pattern.Point.TheVariants.{Absent, Written, Implied}

-- what stands between a prefix and a suffix, where the text begins with the one and ends with the other behind it
abbrev pub between : List ℕ → List ℕ → List ℕ → Option (List ℕ)
between prefix suffix text =
    if nat_le (length prefix + length suffix) (length text)
    && (bytes_eq (take (length prefix) text) prefix && bytes_eq (drop (length text - length suffix) text) suffix)
    then Some (take (length text - length suffix - length prefix) (drop (length prefix) text))
    else None

-- the grouping separator, where the pattern groups integer digits
abbrev pub separator_of : NumberForm → NumberPattern → Option ℕ
separator_of form pattern = if pattern.group_size == 0 then None else Some form.grouping

-- the character is the separator
abbrev pub is_separator : Option ℕ → ℕ → Bool
is_separator None c = false
is_separator (Some separator) c = c == separator

-- the text begins with a digit
abbrev pub begins_with_digit : List ℕ → Bool
begins_with_digit [] = false
begins_with_digit (c ∷ rest) = is_ascii_digit c

-- Digits, and separators that each have a digit on both sides; the flag tells whether a digit stands in front.
abbrev pub are_grouped : Option ℕ → Bool → List ℕ → Bool
are_grouped separator behind [] = true
are_grouped separator behind (c ∷ rest) =
    if is_ascii_digit c then are_grouped separator true rest
    else (is_separator separator c && (behind && begins_with_digit rest)) && are_grouped separator false rest

-- the integer digits of a body with their separators, its fraction digits, and how many digits stand behind the decimal
-- point
pub record Parts : Type 0 where
  pub whole : List ℕ
  pub fraction : List ℕ
  pub scale : ℕ

-- A body's parts: without a fraction; divided by the first decimal separator, if there is one; or with its last
-- characters, as many as the pattern has signs there, behind the implied decimal point.
abbrev pub parts_at : Point → ℕ → ℕ → List ℕ → Parts
parts_at Absent decimal implied body = record { whole = body; fraction = []; scale = 0 }
parts_at Written decimal implied body =
    record { whole = before_first (λ c. c == decimal) body; fraction = after_first (λ c. c == decimal) body; scale = length (after_first (λ c. c == decimal) body) }
parts_at Implied decimal implied body =
    record { whole = take (length body - implied) body; fraction = drop (length body - implied) body; scale = implied }

-- the digits of a body before and behind its point
abbrev pub parts_of : NumberForm → NumberPattern → List ℕ → Parts
parts_of form pattern body = parts_at pattern.point form.decimal pattern.implied body

-- at least one digit stands, and nothing else but separators between integer digits
abbrev pub are_digits : Option ℕ → Parts → Bool
are_digits separator parts =
    (are_grouped separator false parts.whole && list_all is_ascii_digit parts.fraction)
    && nat_lt 0 (length parts.whole + length parts.fraction)

-- the number that parts write
abbrev pub parts_number : Bool → Parts → DecimalNumber
parts_number negative parts =
    record { mantissa = with_sign negative (number_of (filter is_ascii_digit parts.whole ++ parts.fraction)); scale = parts.scale }

-- the number that a body writes, if it writes one
abbrev pub body_number : NumberForm → NumberPattern → Bool → List ℕ → Option DecimalNumber
body_number form pattern negative body =
    let parts = parts_of form pattern body in
    if are_digits (separator_of form pattern) parts then Some (parts_number negative parts) else None
