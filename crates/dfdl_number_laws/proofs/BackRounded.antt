-- A decimal that is rounded is read as a value of decimal.
use Rattle.std.proofs.Common.{◌≡◌, ℕ, zero, suc, ◌-◌, ◌*◌, ◌/◌, ◌%◌, ◌^◌, ◌<◌, ◌≤◌, ◌==◌, ◌&&◌, Bool, true, false, nat_lt, if◌then◌else◌, ℤ, pos, int_div, unsigned_abs, Some, None, is_ok, ap, ◌∙◌, arith, mul_assoc}
use Rattle.std.proofs.Math.Nat.{le_trans, le_of_mul-le-mul_right, mul-le-mul_left, mul-le-mul_right, pow-le-pow_right, div-mul-le_self}
use Rattle.std.proofs.lemmas.Bool.{lt-ltb}
use Rattle.dfdl_decimal.specs.Decimal.{DecimalNumber, shortest_from, is_small, with_sign}
use Rattle.dfdl_value.specs.Numbers.{number_reading}
use Rattle.dfdl_value.specs.ReadValues.{fixed_reading}
use Rattle.dfdl_value.specs.Types.{HasForm}
use Rattle.dfdl_forms.specs.declared.simple.Form.{Form}
use Rattle.dfdl_forms.specs.declared.simple.Form.TheVariants.{Signed, Unsigned, Fixed}
use Rattle.dfdl_value.specs.declared.value.Value.{Value}
use Rattle.dfdl_value.specs.declared.value.Value.TheVariants.{Int, Uns, Dec, Text, Truth, Bytes}
use Rattle.dfdl_decimal.proofs.FixedLemmas.{int_div-with_sign, unsigned_abs-with_sign}
use Rattle.dfdl_decimal.proofs.OrderLemmas.{pow_some, pow_split}
use Rattle.dfdl_forms.specs.declared.number.Rounding.{Rounding}
use Rattle.dfdl_forms.specs.declared.number_pattern.Point.{Point}
use Rattle.dfdl_number_text.specs.NumberReading.{of_value}
use Rattle.dfdl_number_text.specs.Writing.{number_of_value, size_at}
use Rattle.dfdl_number_laws.proofs.BackNumbers.{near}

small_as_is : (b : Bool) (n s : ℕ) → n < 10 ^ 38 → s < 256 → is_small (record { mantissa = with_sign b n; scale = s }) ≡ true
small_as_is b n s few short =
    ap (λ (m : ℕ). nat_lt m (10 ^ 38) && nat_lt s 256) (unsigned_abs-with_sign b n)
    ∙ ap (λ (t : Bool). t && nat_lt s 256) (lt-ltb _ _ few) ∙ lt-ltb _ _ short

small_shortest : (s : ℕ) (b : Bool) (n : ℕ) → n < 10 ^ 38 → s < 256 → is_small (shortest_from s (with_sign b n)) ≡ true
small_shortest zero b n few short = small_as_is b n 0 few short
small_shortest (suc s) b n few short = by (unsigned_abs (with_sign b n) % 10 == 0) (small_shortest s b (n / 10) (omega arith) (omega arith))
  where
    by : (t : Bool) → is_small (shortest_from s (with_sign b (n / 10))) ≡ true
        → is_small (if t then shortest_from s (int_div (with_sign b n) (pos 10)) else record { mantissa = with_sign b n; scale = suc s }) ≡ true
    by true rest = ap (λ (z : ℤ). is_small (shortest_from s z)) (int_div-with_sign b n) ∙ rest
    by false rest = small_as_is b n (suc s) few short

-- fewer fraction digits make a quotient with fewer digits
small_quotient : (m places scale : ℕ) → places < scale → m * 10 ^ places / 10 ^ scale * 10 ≤ m
small_quotient m places scale less =
    let q : ℕ = m * 10 ^ places / 10 ^ scale in
    let split : 10 ^ scale ≡ 10 ^ (scale - places) * 10 ^ places = pow_split places scale (omega arith) in
    let ten : 10 ≤ 10 ^ (scale - places) = pow-le-pow_right {n = 10} (omega arith) (let some : 1 ≤ scale - places = omega arith in some) in
    let more : 10 * 10 ^ places ≤ 10 ^ scale = rw split (mul-le-mul_right (10 ^ places) ten) in
    let all : q * (10 * 10 ^ places) ≤ m * 10 ^ places = le_trans (mul-le-mul_left q more) (div-mul-le_self (m * 10 ^ places) (10 ^ scale)) in
    le_of_mul-le-mul_right (rw (mul_assoc q 10 (10 ^ places)) all) (pow_some places)

pub small_size : (mode : Rounding) (point : Point) (places : ℕ) (number : DecimalNumber) (size : ℕ) → size_at mode point places number ≡ Some size
    → unsigned_abs number.mantissa < 10 ^ 38 → places < number.scale → size < 10 ^ 38
small_size mode point places number size is few less =
    omega (arith, near mode point places number size is, small_quotient (unsigned_abs number.mantissa) places number.scale less, few)

pub rounded_is_value : (mode : Rounding) (point : Point) (kind : Form) (value : Value) (number : DecimalNumber) (b : Bool) (size places : ℕ) → HasForm kind value
    → number_of_value value ≡ Some number → places < number.scale → size_at mode point places number ≡ Some size
    → is_ok (of_value (number_reading kind (record { mantissa = with_sign b size; scale = places }))) ≡ true
rounded_is_value mode point (Signed bits) (Int z) number b size places is e less told = let same : number.scale ≡ 0 = cc in absurd (omega (arith, less, same))
rounded_is_value mode point (Unsigned bits) (Uns n) number b size places is e less told = let same : number.scale ≡ 0 = cc in absurd (omega (arith, less, same))
rounded_is_value mode point Fixed (Dec d) number b size places is e less told =
    let held : number ≡ d = cc in
    let few : unsigned_abs number.mantissa < 10 ^ 38 = rw held is.digits in
    let short : places < 256 = let bound : number.scale < 256 = rw held is.places in omega (arith, less, bound) in
    let small = small_shortest places b size (small_size mode point places number size told few less) short in
    ap (λ (t : Bool). is_ok (of_value (fixed_reading (if t then Some (shortest_from places (with_sign b size)) else None)))) small
rounded_is_value mode point kind (Text t) number b size places is e less told = absurd cc
rounded_is_value mode point kind (Truth t) number b size places is e less told = absurd cc
rounded_is_value mode point kind (Bytes t) number b size places is e less told = absurd cc
rounded_is_value mode point kind value number b size places is e less told = absurd is
