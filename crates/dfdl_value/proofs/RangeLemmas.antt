-- Lemmas on the ranges of the integer types.
use Rattle.std.proofs.Common.{◌≡◌, ℕ, zero, suc, ◌-◌, ◌^◌, ◌<◌, ◌≤◌, Bool, true, false, ◌&&◌, refl, sym, ap, subst, cond, ◌∙◌, arith, ℤ, pos, negsuc, neg_ℤ, int_le, int_lt, unsigned_abs, Option, Some, None, Ok, Err, IfOk}
use Rattle.std.proofs.lemmas.Bool.Decides.{nat_tests}
use Rattle.std.proofs.Math.Pow.{pow_mono}
use Rattle.std.proofs.lemmas.Nat.{pow_pos}
use Rattle.std.proofs.lemmas.Float.{T_from_true}
use Rattle.std.specs.Int.Signed.{le_z_yes}
use Rattle.dfdl_value.specs.declared.read.NoValue.{NoValue}
use Rattle.dfdl_value.specs.declared.read.NoValue.TheVariants.{NotAValue, PastType}
use Rattle.dfdl_forms.specs.declared.simple.Form.TheVariants.{Signed, Unsigned}
use Rattle.dfdl_value.specs.declared.value.Value.{Value}
use Rattle.dfdl_value.specs.declared.value.Value.TheVariants.{Int, Uns}
use Rattle.dfdl_lemmas.proofs.Bools.{both}
use Rattle.dfdl_value.specs.ReadValues.{Reading, signed_reading, unsigned_reading}
use Rattle.dfdl_value.specs.WholeShown.{IsWholeOf}
use Rattle.dfdl_value.specs.Types.{HasForm, least_signed, greatest_signed}

-- the test of a range around zero, from its half
abbrev within : ℕ → ℤ → Bool
within half z = int_le (neg_ℤ (pos half)) z && int_le z (pos (half - 1))

within-pos : (half m : ℕ) → m < half → within half (pos m) ≡ true
within-pos zero m less = elim less [ ]
within-pos (suc h) m less = grind (arith, nat_tests)

within-pos_past : (half m : ℕ) → 0 < half → half ≤ m → within half (pos m) ≡ false
within-pos_past zero m some past = elim some [ ]
within-pos_past (suc h) m some past = grind (arith, nat_tests)

within-neg : (half m : ℕ) → 0 < half → m ≤ half → within half (neg_ℤ (pos m)) ≡ true
within-neg zero m some less = elim some [ ]
within-neg (suc h) zero some less = grind (arith, nat_tests)
within-neg (suc h) (suc m) some less = grind (arith, nat_tests)

within-neg_past : (half m : ℕ) → 0 < half → half < m → within half (neg_ℤ (pos m)) ≡ false
within-neg_past zero m some past = elim some [ ]
within-neg_past (suc h) zero some past = elim past [ ]
within-neg_past (suc h) (suc m) some past = grind (arith, nat_tests)

-- a magnitude of more than 128 bits is outside of each type
within-far : (half : ℕ) (z : ℤ) → 0 < half → half < unsigned_abs z → within half z ≡ false
within-far half (pos n) some far = within-pos_past half n some (omega arith)
within-far half (negsuc n) some far = within-neg_past half (suc n) some far

pub signed_reading-far : (bits : ℕ) (z : ℤ) → 1 ≤ bits → bits ≤ 128 → 2 ^ 128 ≤ unsigned_abs z → signed_reading bits (Some z) ≡ Err PastType
signed_reading-far bits z some few far =
    let fewer : bits - 1 ≤ 127 = omega arith in
    rw (within-far (2 ^ (bits - 1)) z (pow_pos (bits - 1)) (omega (arith, pow_mono fewer)))

below-far : (greatest : ℕ) (z : ℤ) → greatest ≤ unsigned_abs z → (int_le (pos 0) z && int_lt z (pos greatest)) ≡ false
below-far greatest (pos n) far = grind (arith, nat_tests)
below-far greatest (negsuc n) far = refl

pub unsigned_reading-far : (bits : ℕ) (z : ℤ) → bits ≤ 128 → 2 ^ 128 ≤ unsigned_abs z → unsigned_reading bits (Some z) ≡ Err PastType
unsigned_reading-far bits z few far = rw (below-far (2 ^ bits) z (omega (arith, pow_mono few)))

-- why there is no whole number of 128 bits is why a type that is no wider reads no value
pub reading_of_refusal : (reading : Option ℤ → Reading) (number : Option ℤ) (why : NoValue) → IsWholeOf number (Err why)
    → reading None ≡ Err NotAValue → ((z : ℤ) → 2 ^ 128 ≤ unsigned_abs z → reading (Some z) ≡ Err PastType) → Err why ≡ reading number
reading_of_refusal reading number NotAValue none at_none at_far = sym (ap reading none ∙ at_none)
reading_of_refusal reading number PastType far at_none at_far = sym (ap reading far.1 ∙ at_far far.0 far.2)

-- what passes the test of a choice is the first of it
chosen : {A : Type 0} (b : Bool) (x y z : A) → ¬ (y ≡ z) → cond b x y ≡ z → (b ≡ true) × (x ≡ z)
chosen true x y z other e = (refl, e)
chosen false x y z other e = absurd (other e)

-- what is read is of the type
pub HasForm-signed : (bits : ℕ) (number : Option ℤ) (v : Value) → signed_reading bits number ≡ Ok v → HasForm (Signed bits) v
HasForm-signed bits None v e = absurd (cc)
HasForm-signed bits (Some z) v e =
    let taken = chosen (within (2 ^ (bits - 1)) z) (Ok (Int z)) (Err PastType) (Ok v) (λ h. cc) e in
    let tests : (int_le (least_signed bits) z ≡ true) × (int_le z (greatest_signed bits) ≡ true) = both _ _ taken.0 in
    let is : Int z ≡ v = cc in
    let P : Value → Type 0 = λ w. HasForm (Signed bits) w in
    subst P is (le_z_yes (T_from_true _ tests.0), le_z_yes (T_from_true _ tests.1))

below_is : (most : ℕ) (z : ℤ) → int_le (pos 0) z ≡ true → int_lt z (pos most) ≡ true → unsigned_abs z < most
below_is most (pos n) low high = grind (arith, nat_tests)
below_is most (negsuc n) low high = absurd (cc)

pub HasForm-unsigned : (bits : ℕ) (number : Option ℤ) (v : Value) → unsigned_reading bits number ≡ Ok v → HasForm (Unsigned bits) v
HasForm-unsigned bits None v e = absurd (cc)
HasForm-unsigned bits (Some z) v e =
    let taken = chosen (int_le (pos 0) z && int_lt z (pos (2 ^ bits))) (Ok (Uns (unsigned_abs z))) (Err PastType) (Ok v) (λ h. cc) e in
    let tests : (int_le (pos 0) z ≡ true) × (int_lt z (pos (2 ^ bits)) ≡ true) = both _ _ taken.0 in
    let is : Uns (unsigned_abs z) ≡ v = cc in
    let P : Value → Type 0 = λ w. HasForm (Unsigned bits) w in
    subst P is (below_is (2 ^ bits) z tests.0 tests.1)
