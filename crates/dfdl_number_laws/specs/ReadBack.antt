-- The conditions under which the text of a number by a pattern is read as that number.
use Rattle.std.specs.Prelude.{◌≡◌, ℕ, ◌≤◌, ◌==◌, ◌||◌, not, Bool, ◌⊎◌, true, false, List, [], ◌∷◌, reverse, None}
use Rattle.std.specs.Char.{is_ascii_digit}
use Rattle.dfdl_decimal.specs.Decimal.{DecimalNumber}
use Rattle.dfdl_forms.specs.declared.number.NumberForm.{NumberForm}
use Rattle.dfdl_forms.specs.declared.number_pattern.NumberPattern.{NumberPattern}
use Rattle.dfdl_forms.specs.declared.number_pattern.Point.{Point}
use Rattle.dfdl_forms.specs.declared.number_pattern.Point.TheVariants.{Written, Implied}
use Rattle.dfdl_number_text.specs.Body.{separator_of, is_separator}
use Rattle.dfdl_number_text.specs.NumberReading.{signed_number}
use Rattle.dfdl_number_text.specs.Writing.{places_of}

-- The number has no more fraction digits than the pattern; a whole number has none. Where the decimal point is implied, a
-- number that has more has no text.
abbrev pub NeedsNoRounding : NumberPattern → Point → DecimalNumber → Type 0
NeedsNoRounding pattern Implied number = Unit {0}
NeedsNoRounding pattern point number = number.scale ≤ places_of pattern point

-- ---- texts of negative numbers that are not read as positive ones

-- no number stands between the positive prefix and suffix
abbrev pub IsNotPositive : NumberForm → NumberPattern → List ℕ → Type 0
IsNotPositive form pattern text = signed_number form pattern false pattern.prefix pattern.suffix text ≡ None

-- a decimal separator, where the pattern writes one
abbrev pub is_decimal : Point → ℕ → ℕ → Bool
is_decimal Written decimal c = c == decimal
is_decimal point decimal c = false

-- the character may stand in a body
abbrev pub is_of_body : NumberForm → NumberPattern → ℕ → Bool
is_of_body form pattern c = is_ascii_digit c || (is_separator (separator_of form pattern) c || is_decimal pattern.point form.decimal c)

-- What begins with the second list has no body behind the first: the lists differ at a place, or the second goes on behind
-- the first with a character that stands in no body.
abbrev pub tells : (ℕ → Bool) → List ℕ → List ℕ → Bool
tells of_body [] [] = false
tells of_body [] (c ∷ negative) = not (of_body c)
tells of_body (p ∷ positive) [] = false
tells of_body (p ∷ positive) (c ∷ negative) = not (p == c) || tells of_body positive negative

-- the negative prefix tells the sign, or the negative suffix does, read from its end
abbrev pub tells_sign : NumberForm → NumberPattern → Bool
tells_sign form pattern =
    tells (is_of_body form pattern) pattern.prefix pattern.negative_prefix
    || tells (is_of_body form pattern) (reverse pattern.suffix) (reverse pattern.negative_suffix)

-- the text of a negative number is read as no positive one: the pattern tells the sign, or this text does
abbrev pub HasOneSign : NumberForm → NumberPattern → List ℕ → Type 0
HasOneSign form pattern text = (tells_sign form pattern ≡ true) ⊎ IsNotPositive form pattern text
