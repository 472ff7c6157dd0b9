-- Lemmas on the value that a decimal number is.
use Rattle.std.proofs.Common.{◌≡◌, ◌≢◌, ℕ, zero, suc, ◌%◌, ◌^◌, ◌<◌, ◌≤◌, ◌==◌, Bool, true, false, ◌&&◌, nat_lt, if◌then◌else◌, refl, sym, ap, ◌∙◌, arith, unsigned_abs, Option, Some, None}
use Rattle.std.proofs.lemmas.Bool.{le-ltb, eqb-true, eqb-false}
use Rattle.std.proofs.Math.Bool.{and-false}
use Rattle.dfdl_forms.specs.declared.simple.Form.{Form}
use Rattle.dfdl_forms.specs.declared.simple.Form.TheVariants.{Signed, Unsigned, Fixed}
use Rattle.dfdl_decimal.specs.Decimal.{DecimalNumber, shortest_from, is_small, fixed_of, with_sign}
use Rattle.dfdl_value.specs.Numbers.{whole_if_short, number_reading}
use Rattle.dfdl_value.specs.ReadValues.{signed_reading, unsigned_reading, fixed_reading}
use Rattle.dfdl_decimal.proofs.FixedLemmas.{unsigned_abs-with_sign, shortest_from-stops}

-- a number without a zero at its end is in its shortest form
shortest_from-last : (b : Bool) (n s : ℕ) → (0 < s → n % 10 ≢ 0) → shortest_from s (with_sign b n) ≡ record { mantissa = with_sign b n; scale = s }
shortest_from-last b n zero last = refl
shortest_from-last b n (suc s) last = shortest_from-stops s (with_sign b n) (rw unsigned_abs-with_sign (last (omega arith)))

-- what the form that `Fixed` has is taken from
abbrev picked : DecimalNumber → Option DecimalNumber
picked d = if is_small d then Some d else None

pub fixed_of-far : (b : Bool) (n s : ℕ) → (0 < s → n % 10 ≢ 0) → 10 ^ 38 ≤ n → fixed_of (record { mantissa = with_sign b n; scale = s }) ≡ None
fixed_of-far b n s last far =
    let past : 10 ^ 38 ≤ unsigned_abs (with_sign b n) = rw unsigned_abs-with_sign far in
    ap picked (shortest_from-last b n s last)
    ∙ ap (λ t. if t && nat_lt s 256 then Some (record { mantissa = with_sign b n; scale = s }) else None) (le-ltb _ _ past)

pub fixed_of-deep : (b : Bool) (n s : ℕ) → (0 < s → n % 10 ≢ 0) → 256 ≤ s → fixed_of (record { mantissa = with_sign b n; scale = s }) ≡ None
fixed_of-deep b n s last deep =
    let less = nat_lt (unsigned_abs (with_sign b n)) (10 ^ 38) in
    let none : (less && nat_lt s 256) ≡ false = ap (λ t. less && t) (le-ltb _ _ deep) ∙ and-false less in
    ap picked (shortest_from-last b n s last)
    ∙ ap (λ t. if t then Some (record { mantissa = with_sign b n; scale = s }) else None) none

-- a number without a zero at its end is read as it stands
module _ (b : Bool) (n s : ℕ) (last : 0 < s → n % 10 ≢ 0) where
  pub signed_short : (bits : ℕ) → number_reading (Signed bits) (record { mantissa = with_sign b n; scale = s }) ≡ signed_reading bits (whole_if_short (record { mantissa = with_sign b n; scale = s }))
  signed_short bits = ap (λ d. signed_reading bits (whole_if_short d)) (shortest_from-last b n s last)

  pub unsigned_short : (bits : ℕ) → number_reading (Unsigned bits) (record { mantissa = with_sign b n; scale = s }) ≡ unsigned_reading bits (whole_if_short (record { mantissa = with_sign b n; scale = s }))
  unsigned_short bits = ap (λ d. unsigned_reading bits (whole_if_short d)) (shortest_from-last b n s last)

-- two numbers with one shortest form are read as one
pub number_reading-same : (form : Form) (d e : DecimalNumber) → shortest_from d.scale d.mantissa ≡ shortest_from e.scale e.mantissa → number_reading form d ≡ number_reading form e
number_reading-same (Signed bits) d e same = ap (λ f. signed_reading bits (whole_if_short f)) same
number_reading-same (Unsigned bits) d e same = ap (λ f. unsigned_reading bits (whole_if_short f)) same
number_reading-same Fixed d e same = ap (λ f. fixed_reading (picked f)) same
number_reading-same _ d e same = refl
