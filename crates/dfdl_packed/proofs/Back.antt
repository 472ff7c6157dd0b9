-- What a value is written as is read as that value.
use Rattle.std.proofs.Common.{◌≡◌, ℕ, ◌+◌, ◌-◌, ◌*◌, ◌^◌, ◌<◌, ◌≤◌, max, ℤ, pos, negsuc, ◌*ℤ◌, unsigned_abs, Bool, true, false, cond, nat_le, List, Option, Some, None, Ok, refl, ap, sym, ◌∙◌, arith}
use Rattle.std.proofs.lemmas.Int.{unsigned_abs-mul, ints}
use Rattle.std.proofs.Math.Nat.{le_trans, pow-le-pow_right}
use Rattle.dfdl_forms.specs.BinaryNumbers.{IsPackedForm}
use Rattle.dfdl_forms.specs.Packed.{IsZonedForm}
use Rattle.dfdl_forms.specs.Types.{form_of, HasFewBits}
use Rattle.dfdl_forms.proofs.KindLemmas.{few_bits}
use Rattle.dfdl_value.specs.Types.{IsOfType, HasForm}
use Rattle.dfdl_forms.specs.declared.simple.Form.{Form}
use Rattle.dfdl_forms.specs.declared.simple.Form.TheVariants.{Signed, Unsigned, Fixed}
use Rattle.dfdl_value.specs.declared.value.Value.{Value}
use Rattle.dfdl_value.specs.declared.value.Value.TheVariants.{Int, Uns, Dec}
use Rattle.dfdl_forms.specs.declared.packed.PackedForm.{PackedForm}
use Rattle.dfdl_forms.specs.declared.packed.PackedRep.{PackedRep}
use Rattle.dfdl_forms.specs.declared.packed.PackedRep.TheVariants.{Packed, Bcd, Ibm4690}
use Rattle.dfdl_forms.specs.declared.packed.ZonedForm.{ZonedForm}
use Rattle.dfdl_packed.specs.Digits.{padded_digits, digit_count}
use Rattle.dfdl_packed.specs.Packed.{packed_reading, packed_writing, number_by, value_if, nibbles_by, nibbles_if, is_negative}
use Rattle.dfdl_packed.specs.Typed.{integer_in}
use Rattle.dfdl_packed.specs.Zoned.{zoned_reading, zoned_writing, zoned_value_if, signed_chars, chars_if}
use Rattle.dfdl_packed.proofs.BackValues.{value_back}
use Rattle.dfdl_packed.proofs.PackedBack.{FitsKind, fits_kind, packed_back, bcd_back, ibm_back, count_some, count_below}
use Rattle.dfdl_packed.proofs.ScaledLemmas.{small_product}
use Rattle.dfdl_packed.proofs.ZonedBack.{zoned_back}

number_back : (form : PackedForm) (rep : PackedRep) (z : ℤ) (nibbles : List ℕ) → IsPackedForm form → FitsKind (form_of form.kind) z
    → nibbles_by rep form z ≡ Some nibbles → number_by rep form nibbles ≡ Some (is_negative z, unsigned_abs z)
number_back form Packed z nibbles is fits e = packed_back form z nibbles is.allowed fits e
number_back form Bcd z nibbles is fits e = bcd_back form.nibbles z nibbles is.some e
number_back form Ibm4690 z nibbles is fits e = ibm_back form.nibbles z nibbles e

pub packed_law : (form : PackedForm) (value : Value) (nibbles : List ℕ) → IsPackedForm form → IsOfType form.kind value
    → packed_writing form value ≡ Some nibbles → packed_reading form nibbles ≡ Ok value
packed_law form value nibbles is of e = by (integer_in (form_of form.kind) form.point value) refl e
  where
    by : (o : Option ℤ) → integer_in (form_of form.kind) form.point value ≡ o → nibbles_if form o ≡ Some nibbles → packed_reading form nibbles ≡ Ok value
    by None held h = absurd cc
    by (Some z) held h =
        let fits : FitsKind (form_of form.kind) z = fits_kind (form_of form.kind) form.point value z held in
        ap (value_if form) (number_back form form.rep z nibbles is fits h)
        ∙ value_back (form_of form.kind) form.point value z of held

-- ---- zoned
size_is : (bits : ℕ) (y : ℤ) → HasForm (Signed bits) (Int y) → unsigned_abs y ≤ 2 ^ (bits - 1)
size_is bits (pos n) is = omega (arith, ints, is.1)
size_is bits (negsuc n) is = omega (arith, ints, is.0)

small_power : (m point : ℕ) → m < 2 ^ 128 → point ≤ 38 → m * 10 ^ point < 10 ^ 80
small_power m point small few =
    le_trans (small_product m point small) (pow-le-pow_right {n = 10} (omega arith) (let less : 39 + point ≤ 80 = omega arith in less))

-- integers that are written have at most 80 digits
small_integer : (kind : Form) (point : ℕ) (value : Value) (z : ℤ) → HasFewBits kind → HasForm kind value → point ≤ 38
    → integer_in kind point value ≡ Some z → unsigned_abs z < 10 ^ 80
small_integer (Signed bits) point (Int y) z few is places e =
    let same : y *ℤ pos (10 ^ point) ≡ z = cc in
    let half : 2 ^ (bits - 1) ≤ 2 ^ 127 = pow-le-pow_right {n = 2} (omega arith) (let less : bits - 1 ≤ 127 = omega (arith, few.1) in less) in
    let small : unsigned_abs y < 2 ^ 128 = omega (arith, size_is bits y is) in
    rw (← same, unsigned_abs-mul) (small_power (unsigned_abs y) point small places)
small_integer (Unsigned bits) point (Uns n) z few is places e =
    let same : pos (n * 10 ^ point) ≡ z = cc in
    let all : 2 ^ bits ≤ 2 ^ 128 = pow-le-pow_right {n = 2} (omega arith) few.1 in
    rw (← same) (small_power n point (omega arith) places)
small_integer Fixed point (Dec d) z few is places e = by (nat_le d.scale point) e
  where
    by : (b : Bool) → cond b (Some (d.mantissa *ℤ pos (10 ^ (point - d.scale)))) None ≡ Some z → unsigned_abs z < 10 ^ 80
    by false h = absurd cc
    by true h =
        let same : d.mantissa *ℤ pos (10 ^ (point - d.scale)) ≡ z = cc in
        let small : unsigned_abs d.mantissa < 2 ^ 128 = omega (arith, is.digits) in
        rw (← same, unsigned_abs-mul) (small_power (unsigned_abs d.mantissa) (point - d.scale) small (omega arith))
small_integer kind point value z few is places e = absurd cc

pub zoned_law : (form : ZonedForm) (value : Value) (chars : List ℕ) → IsZonedForm form → IsOfType form.kind value
    → zoned_writing form value ≡ Some chars → zoned_reading form chars ≡ Ok value
zoned_law form value chars is of e = by (integer_in kind form.point value) refl e
  where
    kind : Form
    kind = form_of form.kind

    by : (o : Option ℤ) → integer_in kind form.point value ≡ o → chars_if form o ≡ Some chars → zoned_reading form chars ≡ Ok value
    by None held h = absurd cc
    by (Some z) held h =
        let n : ℕ = unsigned_abs z in
        let count : ℕ = max form.width (digit_count 79 n) in
        let small : n < 10 ^ 80 = small_integer kind form.point value z (few_bits form.kind) of is held in
        let enough : 10 ^ digit_count 79 n ≤ 10 ^ count = pow-le-pow_right {n = 10} (omega arith) (let less : digit_count 79 n ≤ count = omega arith in less) in
        let some : 1 ≤ count = omega (arith, count_some 79 n) in
        let same : signed_chars kind form (is_negative z) (padded_digits count n) ≡ chars = cc in
        ap (zoned_reading form) (sym same)
        ∙ ap (zoned_value_if form) (zoned_back kind form z count (fits_kind kind form.point value z held) some (le_trans (count_below 79 n small) enough))
        ∙ value_back kind form.point value z of held
