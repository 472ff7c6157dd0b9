-- What is written is read again.
use Rattle.std.proofs.Common.{◌≡◌, ◌≢◌, ℕ, suc, ◌+◌, ◌-◌, ◌^◌, ◌<◌, ◌≤◌, ℤ, pos, negsuc, ◌*ℤ◌, unsigned_abs, Bool, true, false, cond, nat_lt, nat_le, nat_eq, Option, Some, None, refl, ap, sym, ◌∙◌, arith}
use Rattle.std.specs.Option.{option_map}
use Rattle.std.proofs.lemmas.Bool.{eq-eqb, ne_eqb, lt-ltb}
use Rattle.std.proofs.lemmas.Bool.Decides.{nat_tests}
use Rattle.dfdl_decimal.specs.Decimal.{DecimalNumber, IsFixed, shortest_from, fixed_of}
use Rattle.dfdl_decimal.proofs.FixedLemmas.{shortest_from-shift, shortest_from-fixed}
use Rattle.dfdl_value.specs.Types.{HasForm}
use Rattle.dfdl_forms.specs.declared.simple.Form.{Form}
use Rattle.dfdl_forms.specs.declared.simple.Form.TheVariants.{Signed, Unsigned, Fixed, Characters, Truths, Octets}
use Rattle.dfdl_value.specs.declared.value.Value.{Value}
use Rattle.dfdl_value.specs.declared.value.Value.TheVariants.{Int, Uns, Dec}
use Rattle.dfdl_int_binary.specs.Signed.{signed_of, pattern_of}
use Rattle.dfdl_forms.specs.Binary.{IsNumberSize}
use Rattle.dfdl_forms.specs.BinaryNumbers.{IsTruthForm}
use Rattle.dfdl_int_binary.specs.Integers.{scaled_of, pattern_if, value_in, number_in}
use Rattle.dfdl_forms.specs.declared.binary.BitTruthForm.{BitTruthForm}
use Rattle.dfdl_int_binary.specs.Truths.{DiffersInNumber, truth_reading, truth_writing, true_number, held_in, inverted_in}
use Rattle.dfdl_int_binary.proofs.Powers.{halves}

-- a choice that gives a number
pub chosen : (b : Bool) (x n : ℕ) → cond b (Some x) None ≡ Some n → (b ≡ true) × (x ≡ n)
chosen true x n e = (refl, cc)
chosen false x n e = absurd (cc)

-- ---- two's complement
pub pattern_back : (bits : ℕ) (z : ℤ) (n : ℕ) → 1 ≤ bits → pattern_of bits z ≡ Some n → signed_of bits n ≡ z
pattern_back bits (pos m) n some e =
    let held = chosen (nat_lt m (2 ^ (bits - 1))) m n e in
    rw (← held.1, held.0) refl
pattern_back bits (negsuc m) n some e =
    let held = chosen (nat_lt m (2 ^ (bits - 1))) (2 ^ bits - 1 - m) n e in
    let low : m < 2 ^ (bits - 1) = grind (arith, nat_tests, held.0) in
    let whole : 2 ^ bits ≡ 2 ^ (bits - 1) + 2 ^ (bits - 1) = halves bits some in
    let high : nat_lt (2 ^ bits - 1 - m) (2 ^ (bits - 1)) ≡ false = grind (arith, nat_tests) in
    let again : 2 ^ bits - 1 - (2 ^ bits - 1 - m) ≡ m = omega arith in
    rw (← held.1, high, again) refl

-- ---- decimals
-- zeros behind the point are cut off
zeros_cut : (k s : ℕ) (z : ℤ) → shortest_from (s + k) (z *ℤ pos (10 ^ k)) ≡ shortest_from s z
zeros_cut k s (pos n) = shortest_from-shift k s false n
zeros_cut k s (negsuc n) = shortest_from-shift k s true (suc n)

fixed_of-fixed : (d : DecimalNumber) (point : ℕ) → IsFixed d → d.scale ≤ point
    → fixed_of (record { mantissa = d.mantissa *ℤ pos (10 ^ (point - d.scale)); scale = point }) ≡ Some d
fixed_of-fixed d point is inside =
    let cut : point ≡ d.scale + (point - d.scale) = omega arith in
    let short : shortest_from point (d.mantissa *ℤ pos (10 ^ (point - d.scale))) ≡ d =
    ap (λ (s : ℕ). shortest_from s (d.mantissa *ℤ pos (10 ^ (point - d.scale)))) cut
    ∙ zeros_cut (point - d.scale) d.scale d.mantissa
    ∙ shortest_from-fixed d.mantissa d.scale is.shortest in
    let digits : nat_lt (unsigned_abs d.mantissa) (10 ^ 38) ≡ true = lt-ltb _ _ is.digits in
    let places : nat_lt d.scale 256 ≡ true = lt-ltb _ _ is.places in
    rw (short, digits, places) refl

decimal_back : (bits point n : ℕ) (d : DecimalNumber) → 1 ≤ bits → IsFixed d
    → pattern_if bits (scaled_of d point) ≡ Some n
    → option_map Dec (fixed_of (record { mantissa = signed_of bits n; scale = point })) ≡ Some (Dec d)
decimal_back bits point n d some is e = by_place (nat_le d.scale point) refl e
  where
    by_place : (b : Bool) → nat_le d.scale point ≡ b
        → pattern_if bits (cond b (Some (d.mantissa *ℤ pos (10 ^ (point - d.scale)))) None) ≡ Some n
        → option_map Dec (fixed_of (record { mantissa = signed_of bits n; scale = point })) ≡ Some (Dec d)
    by_place false place h = absurd (cc)
    by_place true place h =
        let inside : d.scale ≤ point = grind (arith, nat_tests) in
        rw (pattern_back bits (d.mantissa *ℤ pos (10 ^ (point - d.scale))) n some h, fixed_of-fixed d point is inside) refl

-- ---- every form
pub form_back : (form : Form) (bits point n : ℕ) (value : Value) → IsNumberSize form bits → HasForm form value
    → number_in form bits point value ≡ Some n → value_in form bits point n ≡ Some value
form_back (Signed most) bits point n (Int z) size is e = ap (λ (z : ℤ). Some (Int z)) (pattern_back bits z n size.0 e)
form_back (Unsigned most) bits point n (Uns m) size is e = ap (λ (m : ℕ). Some (Uns m)) (sym (chosen (nat_lt m (2 ^ bits)) m n e).1)
form_back Fixed bits point n (Dec d) size is e = decimal_back bits point n d size.0 is e
form_back Characters bits point n value size is e = absurd (omega arith)
form_back Truths bits point n value size is e = absurd (omega arith)
form_back Octets bits point n value size is e = absurd (omega arith)
form_back form bits point n value size is e = absurd is

-- ---- booleans
held_back : (bits m n : ℕ) → held_in bits m ≡ Some n → m ≡ n
held_back bits m n e = (chosen (nat_lt m (2 ^ bits)) m n e).1

-- a number with its bits inverted is another number
inverted_back : (bits m n : ℕ) → 1 ≤ bits → inverted_in bits m ≡ Some n → n ≢ m
inverted_back bits m n some e =
    let held = chosen (nat_lt m (2 ^ bits)) (2 ^ bits - 1 - m) n e in
    let low : m < 2 ^ bits = grind (arith, nat_tests, held.0) in
    let whole : 2 ^ bits ≡ 2 ^ (bits - 1) + 2 ^ (bits - 1) = halves bits some in
    λ same. omega (arith, held.1)

pub truth_back : (form : BitTruthForm) (truth : Bool) (n : ℕ) → IsTruthForm form → DiffersInNumber form
    → truth_writing form truth ≡ Some n → truth_reading form n ≡ Some truth
truth_back form false n is differs e =
    let same : nat_eq n form.falsity ≡ true = eq-eqb _ _ (sym (held_back form.bits form.falsity n e)) in
    rw same refl
truth_back form true n is differs e = by_number form.truth refl e
  where
    by_number : (number : Option ℕ) → form.truth ≡ number → true_number number form.bits form.falsity ≡ Some n
        → truth_reading form n ≡ Some true
    by_number None told h =
        let other : nat_eq n form.falsity ≡ false = ne_eqb _ _ (inverted_back form.bits form.falsity n is.0 h) in
        rw (other, told) refl
    by_number (Some t) told h =
        let same : t ≡ n = held_back form.bits t n h in
        let other : nat_eq n form.falsity ≡ false = ne_eqb _ _ (λ (f : n ≡ form.falsity). differs (told ∙ ap Some (same ∙ f))) in
        let found : nat_eq n t ≡ true = eq-eqb _ _ (sym same) in
        rw (other, told, found) refl
