-- The value that a number is read as is that of the number that was written.
use Rattle.std.proofs.Common.{◌≡◌, ℕ, zero, suc, ◌+◌, ◌-◌, ◌*◌, ◌/◌, ◌%◌, ◌^◌, ◌<◌, ◌≤◌, ◌==◌, ◌&&◌, Bool, true, false, if◌then◌else◌, ℤ, pos, negsuc, ◌*ℤ◌, int_lt, unsigned_abs, List, [], ◌∷◌, ◌++◌, length, take, drop, replicate, Some, None, Ok, Err, refl, ap, sym, subst, ◌∙◌, mul_assoc, length-append, append_assoc, arith}
use Rattle.std.specs.Char.{is_ascii_digit}
use Rattle.std.specs.List.{list_all}
use Rattle.std.proofs.Math.Dec.{T}
use Rattle.std.proofs.Math.Nat.{pow-suc, mul-div_cancel, mul-mod_left, pow-le-pow_right, mul-lt-mul_of_pos_right, div-lt_iff_lt-mul, div-le_self}
use Rattle.std.proofs.lemmas.Bool.{eq-eqb, eqb-true, lt-ltb, le-leb, and_parts}
use Rattle.std.proofs.lemmas.Bool.Decides.{nat_tests}
use Rattle.std.proofs.lemmas.Int.{ints}
use Rattle.std.proofs.lemmas.List.{take-append-drop}
use Rattle.std.proofs.lemmas.List.Folds.{list_all-append}
use Rattle.std.proofs.lemmas.Nat.{div-add-mod'}
use Rattle.dfdl_decimal.specs.Decimal.{DecimalNumber, SameNumber, shortest_from, is_small, with_sign}
use Rattle.dfdl_value.specs.Numbers.{number_reading, whole_of, whole_if_short}
use Rattle.dfdl_value.specs.ReadValues.{signed_reading, unsigned_reading, fixed_reading}
use Rattle.dfdl_value.specs.Texts.{is_zero, number_after}
use Rattle.dfdl_lemmas.specs.Trimmed.{before_rest, without_trailing}
use Rattle.dfdl_forms.specs.Types.{HasFewBits}
use Rattle.dfdl_value.specs.Types.{HasForm}
use Rattle.dfdl_value.specs.declared.read.NoValue.TheVariants.{PastType}
use Rattle.dfdl_forms.specs.declared.simple.Form.{Form}
use Rattle.dfdl_forms.specs.declared.simple.Form.TheVariants.{Signed, Unsigned, Fixed}
use Rattle.dfdl_value.specs.declared.value.Value.{Value}
use Rattle.dfdl_value.specs.declared.value.Value.TheVariants.{Int, Uns, Dec, Text, Truth, Bytes}
use Rattle.dfdl_value.proofs.DecimalLemmas.{number_after-append}
use Rattle.dfdl_decimal.proofs.FixedLemmas.{shortest_from-shift}
use Rattle.dfdl_decimal.proofs.OrderLemmas.{pow_some, pow_split}
use Rattle.dfdl_decimal.proofs.SameLemmas.{fixed_of-same}
use Rattle.dfdl_decimal.proofs.SumLemmas.{with_sign-abs, mul-with_sign}
use Rattle.dfdl_forms.specs.declared.number.Rounding.{Rounding}
use Rattle.dfdl_forms.specs.declared.number_pattern.NumberPattern.{NumberPattern}
use Rattle.dfdl_forms.specs.declared.number_pattern.Point.{Point}
use Rattle.dfdl_forms.specs.declared.number_pattern.Point.TheVariants.{Absent, Written, Implied}
use Rattle.dfdl_number_laws.specs.ReadBack.{NeedsNoRounding}
use Rattle.dfdl_number_text.specs.Rounding.{rounded, may_round, goes_up}
use Rattle.dfdl_number_text.specs.Writing.{number_of_value, is_below_zero, places_of, size_at}

-- ---- zeros at the end
zero_is : (x : ℕ) → is_zero x ≡ true → x ≡ 48
zero_is x is = grind (arith, nat_tests)

trailing_zeros : (xs : List ℕ) → (k : ℕ) × (xs ≡ without_trailing is_zero xs ++ replicate k 48)
trailing_zeros [] = (0, refl)
trailing_zeros (x ∷ xs) = let rest = trailing_zeros xs in more (without_trailing is_zero xs) rest.0 rest.1
  where
    alone : (b : Bool) (k : ℕ) → (b ≡ true → x ≡ 48) → xs ≡ replicate k 48 → (j : ℕ) × ((x ∷ xs) ≡ (if b then [] else x ∷ []) ++ replicate j 48)
    alone true k is e = (suc k, ap (λ (c : ℕ). c ∷ xs) (is refl) ∙ ap (λ (r : List ℕ). 48 ∷ r) e)
    alone false k is e = (k, ap (λ (r : List ℕ). x ∷ r) e)

    more : (kept : List ℕ) (k : ℕ) → xs ≡ kept ++ replicate k 48 → (j : ℕ) × ((x ∷ xs) ≡ before_rest is_zero x kept ++ replicate j 48)
    more [] k e = alone (is_zero x) k (zero_is x) e
    more (y ∷ ys) k e = (k, ap (λ (r : List ℕ). x ∷ r) e)

-- digits without the zeros at their end that stand behind the least number of digits
abbrev pub kept_digits : ℕ → List ℕ → List ℕ
kept_digits least digits = take least digits ++ without_trailing is_zero (drop least digits)

kept_zeros : (least : ℕ) (digits : List ℕ) → (k : ℕ) × (digits ≡ kept_digits least digits ++ replicate k 48)
kept_zeros least digits =
    let zeros = trailing_zeros (drop least digits) in (
      zeros.0,
      sym (take-append-drop least digits)
          ∙ ap (λ (ds : List ℕ). take least digits ++ ds) zeros.1
          ∙ sym (append_assoc (take least digits) (without_trailing is_zero (drop least digits)) (replicate zeros.0 48)),
    )

pub kept_are_digits : (least : ℕ) (digits : List ℕ) → list_all is_ascii_digit digits ≡ true → list_all is_ascii_digit (kept_digits least digits) ≡ true
kept_are_digits least digits are =
    let zeros = kept_zeros least digits in
    (and_parts _ _ (sym (list_all-append is_ascii_digit (kept_digits least digits) (replicate zeros.0 48)) ∙ ap (list_all is_ascii_digit) (sym zeros.1) ∙ are)).0

zeros_number : (k n : ℕ) → number_after n (replicate k 48) ≡ n * 10 ^ k
zeros_number zero n = omega arith
zeros_number (suc k) n = rw (pow-suc 10 k) (omega (arith, zeros_number k (n * 10 + (48 - 48))))

length-zeros : (k : ℕ) → length {A = ℕ} (replicate k 48) ≡ k
length-zeros zero = refl
length-zeros (suc k) = omega (arith, length-zeros k)

-- how many zeros are left away, and what number is left
pub record IsKept (q size places : ℕ) (kept : List ℕ) : Type 0 where
  pub zeros : ℕ
  pub size_is : size ≡ number_after q kept * 10 ^ zeros
  pub places_is : places ≡ length kept + zeros

pub kept_number : (least q size places : ℕ) (digits : List ℕ) → length digits ≡ places → number_after q digits ≡ size → IsKept q size places (kept_digits least digits)
kept_number least q size places digits count is =
    let zeros = kept_zeros least digits in
    let kept : List ℕ = kept_digits least digits in
    record {
      zeros = zeros.0;
      size_is = sym is ∙ ap (number_after q) zeros.1 ∙ number_after-append q kept (replicate zeros.0 48) ∙ zeros_number zeros.0 (number_after q kept);
      places_is = sym count ∙ ap length zeros.1 ∙ length-append kept (replicate zeros.0 48) ∙ ap (λ (j : ℕ). length kept + j) (length-zeros zeros.0);
    }

-- ---- sizes
cancel : (m n c : ℕ) → 0 < c → m * c ≡ n * c → m ≡ n
cancel m n c some e = sym (mul-div_cancel m some) ∙ ap (λ (k : ℕ). k / c) e ∙ mul-div_cancel n some

exact_quotient : (dividend divisor size : ℕ) → dividend % divisor ≡ 0 → dividend / divisor ≡ size → size * divisor ≡ dividend
exact_quotient dividend divisor size none is = omega (arith, ap (λ (q : ℕ). q * divisor) is, div-add-mod' dividend divisor)

rounded_exact : (mode : Rounding) (negative : Bool) (dividend divisor size : ℕ) → dividend % divisor ≡ 0 → rounded mode negative dividend divisor ≡ Some size → size * divisor ≡ dividend
rounded_exact mode negative dividend divisor size none is =
    let picked : rounded mode negative dividend divisor ≡ Some (dividend / divisor) =
    ap (λ (b : Bool). if b then Some (dividend / divisor) else if may_round mode
    then Some (if goes_up mode negative (dividend / divisor) (dividend % divisor) divisor then dividend / divisor + 1 else dividend / divisor)
    else None) (eq-eqb _ _ none) in
    let same : dividend / divisor ≡ size = some_same (sym picked ∙ is) in
    exact_quotient dividend divisor size none same
  where
    some_same : {x y : ℕ} → Some x ≡ Some y → x ≡ y
    some_same e = cc

multiple : (m scale places : ℕ) → scale ≤ places → m * 10 ^ places % 10 ^ scale ≡ 0
multiple m scale places few =
    let split : m * 10 ^ places ≡ m * 10 ^ (places - scale) * 10 ^ scale = ap (λ (p : ℕ). m * p) (pow_split scale places few) ∙ sym (mul_assoc m (10 ^ (places - scale)) (10 ^ scale)) in
    rw split (mul-mod_left (m * 10 ^ (places - scale)) (10 ^ scale))

-- a number that isn't rounded is its size
pub exact_size : (mode : Rounding) (pattern : NumberPattern) (point : Point) (number : DecimalNumber) (size : ℕ) → NeedsNoRounding pattern point number
    → size_at mode point (places_of pattern point) number ≡ Some size → size * 10 ^ number.scale ≡ unsigned_abs number.mantissa * 10 ^ places_of pattern point
exact_size mode pattern Absent number size few is =
    rounded_exact mode (is_below_zero number) (unsigned_abs number.mantissa * 10 ^ 0) (10 ^ number.scale) size (multiple (unsigned_abs number.mantissa) number.scale 0 few) is
exact_size mode pattern Written number size few is =
    rounded_exact mode (is_below_zero number) (unsigned_abs number.mantissa * 10 ^ pattern.greatest_fraction) (10 ^ number.scale) size (multiple (unsigned_abs number.mantissa) number.scale pattern.greatest_fraction few) is
exact_size mode pattern Implied number size few is = by (dividend % divisor == 0) refl is
  where
    dividend : ℕ
    dividend = unsigned_abs number.mantissa * 10 ^ pattern.implied

    divisor : ℕ
    divisor = 10 ^ number.scale

    by : (b : Bool) → (dividend % divisor == 0) ≡ b → (if b then Some (dividend / divisor) else None) ≡ Some size → size * divisor ≡ dividend
    by true told h = exact_quotient dividend divisor size (eqb-true _ _ told) (let same : dividend / divisor ≡ size = cc in same)
    by false told h = absurd cc

-- rounding adds one at most
rounded_near : (mode : Rounding) (negative : Bool) (dividend divisor size : ℕ) → rounded mode negative dividend divisor ≡ Some size → size ≤ dividend / divisor + 1
rounded_near mode negative dividend divisor size is = by (dividend % divisor == 0) (may_round mode) (goes_up mode negative (dividend / divisor) (dividend % divisor) divisor) is
  where
    by : (exact may up : Bool) → (if exact then Some (dividend / divisor) else if may then Some (if up then dividend / divisor + 1 else dividend / divisor) else None) ≡ Some size
        → size ≤ dividend / divisor + 1
    by true may up h = let same : dividend / divisor ≡ size = cc in omega (arith, same)
    by false true true h = let same : dividend / divisor + 1 ≡ size = cc in omega (arith, same)
    by false true false h = let same : dividend / divisor ≡ size = cc in omega (arith, same)
    by false false up h = absurd cc

pub near : (mode : Rounding) (point : Point) (places : ℕ) (number : DecimalNumber) (size : ℕ) → size_at mode point places number ≡ Some size
    → size ≤ unsigned_abs number.mantissa * 10 ^ places / 10 ^ number.scale + 1
near mode Absent places number size is = rounded_near mode (is_below_zero number) (unsigned_abs number.mantissa * 10 ^ places) (10 ^ number.scale) size is
near mode Written places number size is = rounded_near mode (is_below_zero number) (unsigned_abs number.mantissa * 10 ^ places) (10 ^ number.scale) size is
near mode Implied places number size is = by (dividend % divisor == 0) is
  where
    dividend : ℕ
    dividend = unsigned_abs number.mantissa * 10 ^ places

    divisor : ℕ
    divisor = 10 ^ number.scale

    by : (b : Bool) → (if b then Some (dividend / divisor) else None) ≡ Some size → size ≤ dividend / divisor + 1
    by true h = let same : dividend / divisor ≡ size = cc in omega (arith, same)
    by false h = absurd cc

-- the integer part has at most 39 digits
pub small_integer : (mode : Rounding) (point : Point) (places : ℕ) (number : DecimalNumber) (size : ℕ) → size_at mode point places number ≡ Some size
    → unsigned_abs number.mantissa < 2 ^ 128 → size / 10 ^ places < 10 ^ 39
small_integer mode point places number size is small =
    let m : ℕ = unsigned_abs number.mantissa in
    let one : 0 < 10 ^ places = pow_some places in
    let few : m + 1 < 10 ^ 39 = omega (arith, small) in
    let less : (m + 1) * 10 ^ places < 10 ^ 39 * 10 ^ places = mul-lt-mul_of_pos_right few one in
    (div-lt_iff_lt-mul {x = size} {y = 10 ^ 39} one).1 (omega (arith, near mode point places number size is, div-le_self (m * 10 ^ places) (10 ^ number.scale), one, less))

-- ---- values
-- numbers of these types have at most 128 bits
pub small_magnitude : (kind : Form) (value : Value) (number : DecimalNumber) → HasFewBits kind → HasForm kind value → number_of_value value ≡ Some number
    → unsigned_abs number.mantissa < 2 ^ 128
small_magnitude (Signed bits) (Int z) number few is e =
    let half : 2 ^ (bits - 1) ≤ 2 ^ 127 = pow-le-pow_right {n = 2} (omega arith) (let less : bits - 1 ≤ 127 = omega (arith, few.1) in less) in
    let same : number ≡ record { mantissa = z; scale = 0 } = cc in
    rw same (omega (arith, size_is bits z is, half))
  where
    size_is : (bits : ℕ) (y : ℤ) → HasForm (Signed bits) (Int y) → unsigned_abs y ≤ 2 ^ (bits - 1)
    size_is bits (pos n) is = omega (arith, ints, is.1)
    size_is bits (negsuc n) is = omega (arith, ints, is.0)
small_magnitude (Unsigned bits) (Uns n) number few is e =
    let all : 2 ^ bits ≤ 2 ^ 128 = pow-le-pow_right {n = 2} (omega arith) few.1 in
    let same : number ≡ record { mantissa = pos n; scale = 0 } = cc in
    rw same (omega (arith, is, all))
small_magnitude Fixed (Dec d) number few is e =
    let same : number ≡ d = cc in
    rw same (omega (arith, is.digits))
small_magnitude kind (Text t) number few is e = absurd cc
small_magnitude kind (Truth b) number few is e = absurd cc
small_magnitude kind (Bytes b) number few is e = absurd cc
small_magnitude kind value number few is e = absurd is

-- the whole number that comes back
whole_back : (z : ℤ) (n s : ℕ) → n * 10 ^ 0 ≡ unsigned_abs z * 10 ^ s → whole_of (record { mantissa = with_sign (int_lt z (pos 0)) n; scale = s }) ≡ Some z
whole_back z n s same =
    let b : Bool = int_lt z (pos 0) in
    let n_is : n ≡ unsigned_abs z * 10 ^ s = omega arith in
    let s_is : s ≡ 0 + s = omega arith in
    let short : shortest_from s (with_sign b n) ≡ record { mantissa = z; scale = 0 } =
    ap (λ (k : ℕ). shortest_from s (with_sign b k)) n_is
    ∙ ap (λ (k : ℕ). shortest_from k (with_sign b (unsigned_abs z * 10 ^ s))) s_is
    ∙ shortest_from-shift s 0 b (unsigned_abs z)
    ∙ ap (λ (y : ℤ). record { mantissa = y; scale = 0 }) (with_sign-abs z) in
    ap whole_if_short short

tests : (a b : Bool) → T a → T b → (a && b) ≡ true
tests true true p q = refl
tests true false p q = absurd q
tests false b p q = absurd p

-- zeros at the end of the fraction say nothing
pub zeros_say_nothing : (kind : Form) (b : Bool) (n scale zeros size places : ℕ) → size ≡ n * 10 ^ zeros → places ≡ scale + zeros
    → number_reading kind (record { mantissa = with_sign b n; scale = scale }) ≡ number_reading kind (record { mantissa = with_sign b size; scale = places })
zeros_say_nothing kind b n scale zeros size places size_is places_is = by kind
  where
    short : shortest_from scale (with_sign b n) ≡ shortest_from places (with_sign b size)
    short =
        sym (shortest_from-shift zeros scale b n)
        ∙ ap (λ (k : ℕ). shortest_from k (with_sign b (n * 10 ^ zeros))) (sym places_is)
        ∙ ap (λ (k : ℕ). shortest_from places (with_sign b k)) (sym size_is)

    by : (kind : Form) → number_reading kind (record { mantissa = with_sign b n; scale = scale }) ≡ number_reading kind (record { mantissa = with_sign b size; scale = places })
    by (Signed bits) = ap (λ (d : DecimalNumber). signed_reading bits (whole_if_short d)) short
    by (Unsigned bits) = ap (λ (d : DecimalNumber). unsigned_reading bits (whole_if_short d)) short
    by Fixed = ap (λ (d : DecimalNumber). fixed_reading (if is_small d then Some d else None)) short
    by kind = refl

-- a number of the same magnitude and sign is read as the value
pub value_back : (kind : Form) (value : Value) (number : DecimalNumber) (n s : ℕ) → HasForm kind value → number_of_value value ≡ Some number
    → n * 10 ^ number.scale ≡ unsigned_abs number.mantissa * 10 ^ s
    → number_reading kind (record { mantissa = with_sign (is_below_zero number) n; scale = s }) ≡ Ok value
value_back (Signed bits) (Int z) number n s is e same =
    let held : number ≡ record { mantissa = z; scale = 0 } = cc in
    let of : n * 10 ^ 0 ≡ unsigned_abs z * 10 ^ s = subst (λ (d : DecimalNumber). n * 10 ^ d.scale ≡ unsigned_abs d.mantissa * 10 ^ s) held same in
    rw held (ap (signed_reading bits) (whole_back z n s of) ∙ ap (λ b. if b then Ok (Int z) else Err PastType) (tests _ _ is.0.le is.1.le))
value_back (Unsigned bits) (Uns m) number n s is e same =
    let held : number ≡ record { mantissa = pos m; scale = 0 } = cc in
    let of : n * 10 ^ 0 ≡ m * 10 ^ s = subst (λ (d : DecimalNumber). n * 10 ^ d.scale ≡ unsigned_abs d.mantissa * 10 ^ s) held same in
    rw held (ap (unsigned_reading bits) (whole_back (pos m) n s of) ∙ ap (λ b. if b then Ok (Uns m) else Err PastType) (both _ _ (le-leb 0 m (omega arith)) (lt-ltb m (2 ^ bits) is)))
  where
    both : (a b : Bool) → a ≡ true → b ≡ true → (a && b) ≡ true
    both a b p q = ap (λ t. t && b) p ∙ q
value_back Fixed (Dec d) number n s is e same =
    let held : number ≡ d = cc in
    let of : n * 10 ^ d.scale ≡ unsigned_abs d.mantissa * 10 ^ s = subst (λ (d : DecimalNumber). n * 10 ^ d.scale ≡ unsigned_abs d.mantissa * 10 ^ s) held same in
    let b : Bool = int_lt d.mantissa (pos 0) in
    let numbers : SameNumber d (record { mantissa = with_sign b n; scale = s }) =
    ap (λ (z : ℤ). z *ℤ pos (10 ^ s)) (sym (with_sign-abs d.mantissa)) ∙ mul-with_sign b (unsigned_abs d.mantissa) (10 ^ s)
    ∙ ap (with_sign b) (sym of) ∙ sym (mul-with_sign b n (10 ^ d.scale)) in
    rw held (ap fixed_reading ((fixed_of-same d (record { mantissa = with_sign b n; scale = s }) is).1 numbers))
value_back kind (Text t) number n s is e same = absurd cc
value_back kind (Truth b) number n s is e same = absurd cc
value_back kind (Bytes b) number n s is e same = absurd cc
value_back kind value number n s is e same = absurd is
