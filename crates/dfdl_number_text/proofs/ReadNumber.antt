-- Lemmas on the value that a number is.
use Rattle.std.proofs.Common.{◌≡◌, ℕ, ◌<◌, ◌%◌, ◌^◌, ◌≤◌, ◌≢◌, refl, sym, ap, ◌∙◌, arith, Option, Some, None}
use Rattle.std.specs.Option.{SomeIff}
use Rattle.dfdl_forms.specs.declared.simple.Form.{Form}
use Rattle.dfdl_decimal.specs.Decimal.{DecimalNumber, with_sign}
use Rattle.dfdl_value.specs.Numbers.{number_reading}
use Rattle.dfdl_value.specs.ReadValues.{Reading}
use Rattle.dfdl_value.proofs.NumberLemmas.{number_reading-same}
use Rattle.dfdl_number_text.specs.declared.read_number.Number.{Number}
use Rattle.dfdl_number_text.specs.NumberReading.{of_value, number_if}
use Rattle.dfdl_number_text.specs.ReadShown.{Shows}

-- what is read of a number, by whether its digits are held
module _ (kind : Form) (number : Number) (r : Reading)
    (held : (n : ℕ) → number.magnitude ≡ Some n → r ≡ number_reading kind (record { mantissa = with_sign number.negative n; scale = number.scale }))
    (past : number.magnitude ≡ None → (n : ℕ) → 2 ^ 128 ≤ n → (0 < number.scale → n % 10 ≢ 0) → r ≡ number_reading kind (record { mantissa = with_sign number.negative n; scale = number.scale })) where
  read_as : (n : ℕ) → SomeIff number.magnitude (n < 2 ^ 128) n → (0 < number.scale → n % 10 ≡ 0 → n ≡ 0) → r ≡ number_reading kind (record { mantissa = with_sign number.negative n; scale = number.scale })
  read_as n is ends = by_digits number.magnitude refl is
    where
      by_digits : (m : Option ℕ) → number.magnitude ≡ m → SomeIff m (n < 2 ^ 128) n → r ≡ number_reading kind (record { mantissa = with_sign number.negative n; scale = number.scale })
      by_digits (Some k) e shown = held n (e ∙ ap Some shown.1)
      by_digits None e more =
          let far : 2 ^ 128 ≤ n = omega (arith, more) in
          past e n far (λ some round. let none : n ≡ 0 = ends some round in omega (arith, far, none))

  pub value_if : (d : Option DecimalNumber) → Shows (Some number) d → of_value r ≡ number_if kind d
  value_if None shows = absurd shows
  value_if (Some d) shows =
      ap of_value (read_as shows.magnitude shows.held shows.ends
      ∙ sym (number_reading-same kind d (record { mantissa = with_sign number.negative shows.magnitude; scale = number.scale }) shows.same))

-- what is shown of a number that there is not
pub Shows-none : (kind : Form) (d : Option DecimalNumber) → Shows None d → number_if kind None ≡ number_if kind d
Shows-none kind None shows = refl
Shows-none kind (Some d) shows = absurd shows
