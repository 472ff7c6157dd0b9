-- The value of an integer that a value is written as.
use Rattle.std.proofs.Common.{◌≡◌, ℕ, ◌+◌, ◌-◌, ◌*◌, ◌^◌, ◌≤◌, ℤ, pos, negsuc, ◌*ℤ◌, unsigned_abs, Bool, true, false, cond, ◌&&◌, nat_le, int_le, int_lt, Some, None, Ok, refl, ap, sym, ◌∙◌, zero-add, arith}
use Rattle.std.proofs.lemmas.Bool.{lt-ltb, le-leb}
use Rattle.std.proofs.lemmas.Bool.Decides.{nat_tests}
use Rattle.std.proofs.lemmas.Int.{unsigned_abs-mul}
use Rattle.std.proofs.Math.Dec.{T}
use Rattle.dfdl_decimal.specs.Decimal.{with_sign, shortest_from}
use Rattle.dfdl_value.specs.Types.{HasForm, least_signed, greatest_signed}
use Rattle.dfdl_forms.specs.declared.simple.Form.{Form}
use Rattle.dfdl_forms.specs.declared.simple.Form.TheVariants.{Signed, Unsigned, Fixed, Characters, Truths, Octets}
use Rattle.dfdl_value.specs.declared.value.Value.{Value}
use Rattle.dfdl_value.specs.declared.value.Value.TheVariants.{Int, Uns, Dec}
use Rattle.dfdl_decimal.proofs.FixedLemmas.{shortest_from-shift, shortest_from-fixed, is_small-fixed}
use Rattle.dfdl_packed.proofs.ScaledLemmas.{negative_product}
use Rattle.dfdl_packed.specs.Packed.{is_negative}
use Rattle.dfdl_packed.specs.Typed.{value_in, integer_in}

-- a sign and a size are an integer
pub with_sign_is : (z : ℤ) → with_sign (is_negative z) (unsigned_abs z) ≡ z
with_sign_is (pos n) = refl
with_sign_is (negsuc n) = refl

-- a number with zeros behind it, in front of as many places more
zeros_back : (y z : ℤ) (k s point : ℕ) → y *ℤ pos (10 ^ k) ≡ z → point ≡ s + k
    → shortest_from point (with_sign (is_negative z) (unsigned_abs z)) ≡ shortest_from s y
zeros_back y z k s point same place =
    let negative : is_negative z ≡ is_negative y = ap is_negative (sym same) ∙ negative_product y k in
    let size : unsigned_abs z ≡ unsigned_abs y * 10 ^ k = ap unsigned_abs (sym same) ∙ unsigned_abs-mul y (pos (10 ^ k)) in
    rw (negative, size, place) (shortest_from-shift k s (is_negative y) (unsigned_abs y) ∙ ap (shortest_from s) (with_sign_is y))

both_pass : (a b : Bool) → T a → T b → (a && b) ≡ true
both_pass true true p q = refl
both_pass true false p q = absurd q
both_pass false b p q = absurd p

both_true : (a b : Bool) → a ≡ true → b ≡ true → (a && b) ≡ true
both_true true b p q = q
both_true false b p q = absurd (cc)

signed_range : (bits : ℕ) (y : ℤ) → HasForm (Signed bits) (Int y) → (int_le (least_signed bits) y && int_le y (greatest_signed bits)) ≡ true
signed_range bits y is = both_pass _ _ is.0.le is.1.le

unsigned_range : (bits n : ℕ) → HasForm (Unsigned bits) (Uns n) → (int_le (pos 0) (pos n) && int_lt (pos n) (pos (2 ^ bits))) ≡ true
unsigned_range bits n is = both_true _ _ (le-leb 0 n (omega arith)) (lt-ltb n (2 ^ bits) is)

pub value_back : (form : Form) (point : ℕ) (value : Value) (z : ℤ) → HasForm form value → integer_in form point value ≡ Some z
    → value_in form point (is_negative z) (unsigned_abs z) ≡ Ok value
value_back (Signed bits) point (Int y) z is e =
    let same : y *ℤ pos (10 ^ point) ≡ z = cc in
    rw (zeros_back y z point 0 point same (sym (zero-add point)), signed_range bits y is) refl
value_back (Unsigned bits) point (Uns n) z is e =
    let same : pos n *ℤ pos (10 ^ point) ≡ z = cc in
    rw (zeros_back (pos n) z point 0 point same (sym (zero-add point)), unsigned_range bits n is) refl
value_back Fixed point (Dec d) z is e = by_place (nat_le d.scale point) refl e
  where
    by_place : (b : Bool) → nat_le d.scale point ≡ b → cond b (Some (d.mantissa *ℤ pos (10 ^ (point - d.scale)))) None ≡ Some z
        → value_in Fixed point (is_negative z) (unsigned_abs z) ≡ Ok (Dec d)
    by_place false place h = absurd (cc)
    by_place true place h =
        let inside : d.scale ≤ point = grind (arith, nat_tests) in
        let same : d.mantissa *ℤ pos (10 ^ (point - d.scale)) ≡ z = cc in
        let cut : point ≡ d.scale + (point - d.scale) = omega arith in
        let short : shortest_from point (with_sign (is_negative z) (unsigned_abs z)) ≡ d =
        zeros_back d.mantissa z (point - d.scale) d.scale point same cut ∙ shortest_from-fixed d.mantissa d.scale is.shortest in
        rw (short, is_small-fixed d is) refl
value_back Characters point value z is e = absurd (cc)
value_back Truths point value z is e = absurd (cc)
value_back Octets point value z is e = absurd (cc)
value_back form point value z is e = absurd is
