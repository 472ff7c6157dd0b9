-- What an integer is written as in a base is read as that integer.
use Rattle.std.proofs.Common.{◌≡◌, ℕ, ◌+◌, ◌-◌, ◌*◌, ◌/◌, ◌^◌, ◌<◌, ◌≤◌, ◌&&◌, Bool, true, false, nat_lt, max, if◌then◌else◌, pos, negsuc, int_lt, List, [], ◌∷◌, length, map, fold, Option, Some, None, Ok, refl, ap, sym, ◌∙◌, zero-mul, arith}
use Rattle.std.specs.Char.{digit_value}
use Rattle.std.specs.List.{list_all}
use Rattle.std.proofs.Math.Nat.{div-eq_of_lt, le_trans, pow-le-pow_left, pow-le-pow_right}
use Rattle.std.proofs.lemmas.Bool.{lt-ltb, and_parts}
use Rattle.std.proofs.lemmas.Bool.Decides.{nat_tests}
use Rattle.std.proofs.lemmas.Int.{ints}
use Rattle.std.proofs.lemmas.List.{length-map}
use Rattle.dfdl_decimal.specs.Decimal.{with_sign}
use Rattle.dfdl_forms.specs.Types.{HasFewBits, form_of}
use Rattle.dfdl_value.specs.Types.{HasForm, IsOfType}
use Rattle.dfdl_forms.specs.declared.simple.Form.{Form}
use Rattle.dfdl_forms.specs.declared.simple.Form.TheVariants.{Signed, Unsigned}
use Rattle.dfdl_forms.specs.declared.simple.Simple.{Simple}
use Rattle.dfdl_value.specs.declared.value.Value.{Value}
use Rattle.dfdl_value.specs.declared.value.Value.TheVariants.{Int, Uns, Dec, Text, Truth, Bytes}
use Rattle.dfdl_forms.specs.NumberForms.{IsNumberForm, is_base}
use Rattle.dfdl_forms.specs.declared.number.NumberForm.{NumberForm}
use Rattle.dfdl_forms.specs.declared.number_pattern.NumberPattern.{NumberPattern}
use Rattle.dfdl_number_text.specs.Digits.{digits_at, digit_count, digit_character}
use Rattle.dfdl_number_text.specs.NumberReading.{reading, reading_by, base_reading, base_number, whole_if, number_if, of_value}
use Rattle.dfdl_number_text.specs.Writing.{writing, writing_by, base_text, base_digits}
use Rattle.dfdl_forms.proofs.KindLemmas.{few_bits}
use Rattle.dfdl_number_laws.proofs.BackDigits.{digits_below, length-digits_at, fold_digits, count_below, value_of_character}
use Rattle.dfdl_number_laws.proofs.BackNumbers.{value_back}

module _ (base : ℕ) (some : 2 ≤ base) (few : base ≤ 36) where
  value_is : (d : ℕ) → nat_lt d base ≡ true → digit_value (digit_character d) ≡ d
  value_is d below = value_of_character d (grind (arith, nat_tests, below, few))

  are_of_base : (ds : List ℕ) → list_all (λ d. nat_lt d base) ds ≡ true → list_all (λ c. nat_lt (digit_value c) base) (map digit_character ds) ≡ true
  are_of_base [] are = refl
  are_of_base (d ∷ ds) are =
      let parts = and_parts (nat_lt d base) (list_all (λ d. nat_lt d base) ds) are in
      rw (value_is d parts.0, parts.0) (are_of_base ds parts.1)

  characters_fold : (ds : List ℕ) (acc : ℕ) → list_all (λ d. nat_lt d base) ds ≡ true
      → fold (λ n c. n * base + digit_value c) acc (map digit_character ds) ≡ fold (λ n digit. n * base + digit) acc ds
  characters_fold [] acc are = refl
  characters_fold (d ∷ ds) acc are =
      let parts = and_parts (nat_lt d base) (list_all (λ d. nat_lt d base) ds) are in
      ap (λ (digit : ℕ). fold (λ n c. n * base + digit_value c) (acc * base + digit) (map digit_character ds)) (value_is d parts.0)
      ∙ characters_fold ds (acc * base + d) parts.1

  digits_number : (len n : ℕ) → n < base ^ len → fold (λ n c. n * base + digit_value c) 0 (map digit_character (digits_at base len n)) ≡ n
  digits_number len n small =
      let below = digits_below base len n (omega arith) in
      let none : n / base ^ len * base ^ len ≡ 0 = ap (λ (q : ℕ). q * base ^ len) (div-eq_of_lt small) ∙ zero-mul (base ^ len) in
      let front : 0 * base ^ len ≡ 0 = zero-mul (base ^ len) in
      omega (arith, characters_fold (digits_at base len n) 0 below, fold_digits base len n 0, none, front)

  pub base_back : (n : ℕ) → n < 2 ^ 128 → base_number base (base_digits base n) ≡ Some n
  base_back n small =
      let count : ℕ = max 1 (digit_count base 128 n) in
      let ds : List ℕ = digits_at base count n in
      let fits : n < base ^ 128 = le_trans small (pow-le-pow_left some 128) in
      let enough : base ^ digit_count base 128 n ≤ base ^ count = pow-le-pow_right {n = base} (omega arith) (let less : digit_count base 128 n ≤ count = omega arith in less) in
      let long : 0 < length (map digit_character ds) = omega (arith, length-map ds digit_character, length-digits_at base count n) in
      let is = digits_number count n (le_trans (count_below base 128 n fits) enough) in
      picked _ _ (lt-ltb _ _ long) (are_of_base ds (digits_below base count n (omega arith))) ∙ ap Some is
    where
      picked : (a b : Bool) {x : ℕ} → a ≡ true → b ≡ true → (if a && b then Some x else None) ≡ Some x
      picked a b p q = rw (p, q) refl

  value_law : (kind : Form) (value : Value) (text : List ℕ) → HasFewBits kind → HasForm kind value → base_text base value ≡ Some text → base_reading base kind text ≡ Ok value
  value_law (Signed bits) (Int (negsuc n)) text bound is e = absurd cc
  value_law (Signed bits) (Int (pos n)) text bound is e = by (int_lt (pos n) (pos 0)) refl e
    where
      half : 2 ^ (bits - 1) ≤ 2 ^ 127
      half = pow-le-pow_right {n = 2} (omega arith) (let less : bits - 1 ≤ 127 = omega (arith, bound.1) in less)

      small : n < 2 ^ 128
      small = omega (arith, ints, is.1, half)

      by : (b : Bool) → int_lt (pos n) (pos 0) ≡ b → (if b then None else Some (base_digits base n)) ≡ Some text → base_reading base (Signed bits) text ≡ Ok (Int (pos n))
      by true told h = absurd cc
      by false told h =
          let same : base_digits base n ≡ text = cc in
          let found : base_number base text ≡ Some n = ap (base_number base) (sym same) ∙ base_back n small in
          ap (λ (o : Option ℕ). number_if (Signed bits) (whole_if o)) found
          ∙ ap (λ (b : Bool). number_if (Signed bits) (Some (record { mantissa = with_sign b n; scale = 0 }))) (sym told)
          ∙ ap of_value (value_back (Signed bits) (Int (pos n)) (record { mantissa = pos n; scale = 0 }) n 0 is refl refl)
  value_law (Unsigned bits) (Uns n) text bound is e =
      let all : 2 ^ bits ≤ 2 ^ 128 = pow-le-pow_right {n = 2} (omega arith) bound.1 in
      let same : base_digits base n ≡ text = cc in
      let found : base_number base text ≡ Some n = ap (base_number base) (sym same) ∙ base_back n (omega (arith, is, all)) in
      ap (λ (o : Option ℕ). number_if (Unsigned bits) (whole_if o)) found
      ∙ ap (λ (b : Bool). number_if (Unsigned bits) (Some (record { mantissa = with_sign b n; scale = 0 }))) (sym (not_below n))
      ∙ ap of_value (value_back (Unsigned bits) (Uns n) (record { mantissa = pos n; scale = 0 }) n 0 is refl refl)
    where
      not_below : (n : ℕ) → int_lt (pos n) (pos 0) ≡ false
      not_below n = grind (arith, nat_tests)
  value_law kind (Dec d) text bound is e = absurd cc
  value_law kind (Text t) text bound is e = absurd cc
  value_law kind (Truth b) text bound is e = absurd cc
  value_law kind (Bytes b) text bound is e = absurd cc
  value_law kind value text bound is e = absurd is

-- bases are from 2 to 16
base_is : (base : ℕ) → is_base base ≡ true → (2 ≤ base) × (base ≤ 36)
base_is base is = grind (arith, nat_tests)

pub base_law : (form : NumberForm) (kind : Simple) (value : Value) (text : List ℕ) → IsNumberForm form → form.pattern ≡ None → IsOfType kind value
    → writing form value ≡ Some text → reading form kind text ≡ Ok value
base_law form kind value text sound none of written =
    let bounds = base_is form.base sound.based in
    ap (λ (o : Option NumberPattern). reading_by form o (form_of kind) text) none
    ∙ value_law form.base bounds.0 bounds.1 (form_of kind) value text (few_bits kind) of
    (ap (λ (o : Option NumberPattern). writing_by form o value) (sym none) ∙ written)
