-- The number that a text is read as, without the zeros at the end of its fraction.
use Rattle.std.specs.Prelude.{◌≡◌, ℕ, ◌<◌, ◌%◌, ◌^◌, ◌&&◌, ◌||◌, Bool, List, Option, Some, None}
use Rattle.std.specs.Char.{is_ascii_digit}
use Rattle.std.specs.Option.{SomeIff}
use Rattle.dfdl_decimal.specs.Decimal.{DecimalNumber, shortest_from, with_sign}
use Rattle.dfdl_number_text.specs.Body.{is_separator, begins_with_digit}
use Rattle.dfdl_number_text.specs.declared.read_number.Number.{Number}

-- Both are the same number. Where it has a fraction it ends in no zero, unless it is zero; its digits are kept where
-- 128 bits hold them.
pub record IsNumber (number : Number) (d : DecimalNumber) : Type 0 where
  pub magnitude : ℕ
  pub held : SomeIff number.magnitude (magnitude < 2 ^ 128) magnitude
  pub ends : 0 < number.scale → magnitude % 10 ≡ 0 → magnitude ≡ 0
  pub same : shortest_from d.scale d.mantissa ≡ shortest_from number.scale (with_sign number.negative magnitude)

-- the same, where there is one
abbrev pub Shows : Option Number → Option DecimalNumber → Type 0
Shows None None = Unit {0}
Shows (Some number) (Some d) = IsNumber number d
Shows _ _ = ⊥

-- a digit, or a separator with digits on both sides
abbrev pub may_stand : Option ℕ → Bool → ℕ → List ℕ → Bool
may_stand separator behind c rest = is_ascii_digit c || (is_separator separator c && (behind && begins_with_digit rest))
