-- The nibbles of a number are read as that number.
use Rattle.std.proofs.Common.{◌≡◌, ℕ, zero, suc, ◌+◌, ◌-◌, ◌/◌, ◌%◌, ◌^◌, ◌<◌, ◌≤◌, ◌&&◌, ℤ, pos, negsuc, unsigned_abs, Bool, true, false, cond, nat_lt, nat_le, nat_eq, List, [], ◌∷◌, ◌++◌, length, take, slice_index, replicate, Option, Some, None, inl, inr, refl, length-append, append_assoc, arith}
use Rattle.std.proofs.lemmas.Bool.{eq-eqb, ne_eqb}
use Rattle.std.proofs.Math.Bool.{or-true}
use Rattle.std.proofs.lemmas.Bool.Decides.{nat_tests}
use Rattle.std.proofs.lemmas.List.{take_at, get_or_at}
use Rattle.dfdl_forms.specs.Types.{form_of}
use Rattle.dfdl_forms.specs.declared.simple.Form.{Form}
use Rattle.dfdl_forms.specs.declared.simple.Form.TheVariants.{Signed, Unsigned, Fixed}
use Rattle.dfdl_value.specs.declared.value.Value.{Value}
use Rattle.dfdl_value.specs.declared.value.Value.TheVariants.{Int, Uns, Dec}
use Rattle.dfdl_forms.specs.declared.packed.PackedForm.{PackedForm}
use Rattle.dfdl_packed.specs.Digits.{padded_digits, digit_count}
use Rattle.dfdl_forms.specs.Packed.{are_allowed}
use Rattle.dfdl_packed.specs.Packed.{strict_sign, lax_sign, signed_digits, some_digits, packed_number, ibm_number, is_negative, code_in, digits_in, with_code, bcd_nibbles, ibm_nibbles, ibm_filled}
use Rattle.dfdl_packed.specs.Typed.{integer_in}
use Rattle.dfdl_packed.proofs.CodeLemmas.{IsPlus, IsMinus, Allowed, allowed_is}
use Rattle.dfdl_packed.proofs.DigitLemmas.{padded_are_digits, digits_back}
use Rattle.dfdl_packed.proofs.FillLemmas.{length-padded_digits}

-- ---- signs
signs_differ : (plus minus : ℕ) → IsPlus plus → IsMinus minus → nat_eq minus plus ≡ false
signs_differ plus minus p (inl e) = grind (arith, nat_tests)
signs_differ plus minus p (inr e) = grind (arith, nat_tests)

-- what a nibble is read as
abbrev sign_by : Bool → List ℕ → Bool → ℕ → Option Bool
sign_by strict codes is_zero code = cond strict (strict_sign codes is_zero code) (lax_sign is_zero code)

module _ (codes : List ℕ) (is_zero : Bool) (allowed : Allowed codes) where
  plus_read : (strict : Bool) → sign_by strict codes is_zero (slice_index codes 0) ≡ Some false
  plus_read true = rw (eq-eqb (slice_index codes 0) (slice_index codes 0) refl) refl
  plus_read false = rw allowed.plus refl

  unsigned_read : (strict : Bool) → sign_by strict codes is_zero (slice_index codes 2) ≡ Some false
  unsigned_read true = rw (eq-eqb (slice_index codes 2) (slice_index codes 2) refl, or-true) refl
  unsigned_read false = rw allowed.unsigned refl

  minus_read : (strict : Bool) → sign_by strict codes is_zero (slice_index codes 1) ≡ Some true
  minus_read true =
      let plus : nat_eq (slice_index codes 1) (slice_index codes 0) ≡ false = signs_differ _ _ allowed.plus allowed.minus in
      let unsigned : nat_eq (slice_index codes 1) (slice_index codes 2) ≡ false = rw allowed.unsigned (signs_differ 15 _ refl allowed.minus) in
      rw (plus, unsigned, eq-eqb (slice_index codes 1) (slice_index codes 1) refl) refl
  minus_read false = elim allowed.minus [ inl e ↦ rw e refl | inr e ↦ rw e refl ]

-- the code of zero is no negative one
zero_read : (codes : List ℕ) → Allowed codes → (strict : Bool) → sign_by strict codes true (slice_index codes 3) ≡ Some false
zero_read codes allowed true =
    let minus : nat_eq (slice_index codes 3) (slice_index codes 1) ≡ false = elim allowed.none [
      | inl plus ↦ elim allowed.minus [ inl e ↦ rw e (grind (arith, nat_tests)) | inr e ↦ rw e (grind (arith, nat_tests)) ]
      | inr none ↦ elim allowed.minus [ inl e ↦ rw (e, none) refl | inr e ↦ rw (e, none) refl ]
    ] in
    rw (minus, eq-eqb (slice_index codes 3) (slice_index codes 3) refl) (either _)
  where
    either : (b : Bool) → cond b (Some false) (Some false) ≡ Some false
    either true = refl
    either false = refl
zero_read codes allowed false = elim allowed.none [ inl plus ↦ rw plus refl | inr none ↦ rw none refl ]

-- an integer that a value of a type can stand for
abbrev pub FitsKind : Form → ℤ → Type 0
FitsKind (Unsigned bits) (negsuc n) = ⊥
FitsKind (Unsigned bits) (pos n) = Unit {0}
FitsKind (Signed bits) z = Unit {0}
FitsKind Fixed z = Unit {0}
FitsKind _ z = ⊥

pub fits_kind : (kind : Form) (point : ℕ) (value : Value) (z : ℤ) → integer_in kind point value ≡ Some z → FitsKind kind z
fits_kind (Signed bits) point value z is = tt
fits_kind Fixed point value z is = tt
fits_kind (Unsigned bits) point (Uns n) (pos m) is = tt
fits_kind (Unsigned bits) point (Uns n) (negsuc m) is = absurd cc
fits_kind (Unsigned bits) point (Int n) z is = absurd cc
fits_kind (Unsigned bits) point (Dec n) z is = absurd cc
fits_kind (Unsigned bits) point value z is = absurd cc
fits_kind kind point value z is = absurd cc

sign_back : (kind : Form) (codes : List ℕ) (z : ℤ) (strict : Bool) → Allowed codes → FitsKind kind z
    → sign_by strict codes (nat_eq (unsigned_abs z) 0) (code_in kind codes z) ≡ Some (is_negative z)
sign_back (Unsigned bits) codes (pos n) strict allowed fits = unsigned_read codes (nat_eq n 0) allowed strict
sign_back (Unsigned bits) codes (negsuc n) strict allowed fits = absurd fits
sign_back (Signed bits) codes (pos zero) strict allowed fits = zero_read codes allowed strict
sign_back (Signed bits) codes (pos (suc n)) strict allowed fits = plus_read codes _ allowed strict
sign_back (Signed bits) codes (negsuc n) strict allowed fits = minus_read codes _ allowed strict
sign_back Fixed codes (pos zero) strict allowed fits = zero_read codes allowed strict
sign_back Fixed codes (pos (suc n)) strict allowed fits = plus_read codes _ allowed strict
sign_back Fixed codes (negsuc n) strict allowed fits = minus_read codes _ allowed strict
sign_back kind codes z strict allowed fits = absurd fits

-- ---- digits
number_of_digits : (negative : Bool) (len n : ℕ) → n < 10 ^ len → signed_digits (Some negative) (padded_digits len n) ≡ Some (negative, n)
number_of_digits negative len n small = rw (padded_are_digits len n, digits_back len n small) refl

number_of_some : (negative : Bool) (len n : ℕ) → 1 ≤ len → n < 10 ^ len → some_digits negative (padded_digits len n) ≡ Some (negative, n)
unfolding padded_digits
number_of_some negative zero n some small = absurd (omega arith)
number_of_some negative (suc len) n some small = number_of_digits negative (suc len) n small

-- ---- packed
pub packed_back : (form : PackedForm) (z : ℤ) (nibbles : List ℕ) → are_allowed form.codes ≡ true → FitsKind (form_of form.kind) z
    → with_code (digits_in (form.nibbles - 1) (unsigned_abs z)) (code_in (form_of form.kind) form.codes z) ≡ Some nibbles
    → packed_number form nibbles ≡ Some (is_negative z, unsigned_abs z)
packed_back form z nibbles allowed fits is = by_size (nat_lt n (10 ^ len)) refl is
  where
    n : ℕ
    n = unsigned_abs z

    len : ℕ
    len = form.nibbles - 1

    code : ℕ
    code = code_in (form_of form.kind) form.codes z

    ds : List ℕ
    ds = padded_digits len n

    by_size : (b : Bool) → nat_lt n (10 ^ len) ≡ b → with_code (cond b (Some ds) None) code ≡ Some nibbles → packed_number form nibbles ≡ Some (is_negative z, n)
    by_size false size h = absurd cc
    by_size true size h =
        let small : n < 10 ^ len = grind (arith, nat_tests) in
        let same : ds ++ code ∷ [] ≡ nibbles = cc in
        let long : length (ds ++ code ∷ []) - 1 ≡ len = simp length-append (omega (arith, length-padded_digits len n)) in
        let front : take len (ds ++ code ∷ []) ≡ ds = take_at ds (code ∷ []) len (length-padded_digits len n) in
        let last : slice_index (ds ++ code ∷ []) len ≡ code = get_or_at ds code [] 0 len (length-padded_digits len n) in
        rw (← same, long, front, last, digits_back len n small, sign_back (form_of form.kind) form.codes z form.strict (allowed_is form.codes allowed) fits) (number_of_digits (is_negative z) len n small)

-- ---- BCD
pub bcd_back : (count : ℕ) (z : ℤ) (nibbles : List ℕ) → 1 ≤ count → bcd_nibbles count z ≡ Some nibbles
    → some_digits false nibbles ≡ Some (is_negative z, unsigned_abs z)
bcd_back count (negsuc n) nibbles some is = absurd cc
bcd_back count (pos n) nibbles some is = by_size (nat_lt n (10 ^ count)) refl is
  where
    by_size : (b : Bool) → nat_lt n (10 ^ count) ≡ b → cond b (Some (padded_digits count n)) None ≡ Some nibbles → some_digits false nibbles ≡ Some (false, n)
    by_size false size h = absurd cc
    by_size true size h =
        let small : n < 10 ^ count = grind (arith, nat_tests) in
        let same : padded_digits count n ≡ nibbles = cc in
        rw (← same) (number_of_some false count n some small)

-- ---- IBM 4690
pub count_some : (most n : ℕ) → 1 ≤ digit_count most n
unfolding digit_count
count_some zero n = omega arith
count_some (suc most) n = by (nat_lt n (10 ^ suc most)) (count_some most n)
  where
    by : (b : Bool) → 1 ≤ digit_count most n → 1 ≤ cond b (digit_count most n) (suc (suc most))
    by true less = less
    by false less = omega arith

pub count_below : (most n : ℕ) → n < 10 ^ suc most → n < 10 ^ digit_count most n
unfolding digit_count
count_below zero n small = small
count_below (suc most) n small = by (nat_lt n (10 ^ suc most)) refl (count_below most n)
  where
    by : (b : Bool) → nat_lt n (10 ^ suc most) ≡ b → (n < 10 ^ suc most → n < 10 ^ digit_count most n) → n < 10 ^ cond b (digit_count most n) (suc (suc most))
    by true size less = less (grind (arith, nat_tests))
    by false size less = small

fill_skipped : (k : ℕ) (xs : List ℕ) → ibm_number (replicate k 15 ++ xs) ≡ ibm_number xs
fill_skipped zero xs = refl
fill_skipped (suc k) xs = fill_skipped k xs

unmarked_back : (len n : ℕ) → 1 ≤ len → n < 10 ^ len → ibm_number (padded_digits len n) ≡ Some (false, n)
unfolding padded_digits
unmarked_back zero n some small = absurd (omega arith)
unmarked_back (suc len) n some small =
    let digit : ℕ = n / 10 ^ len % 10 in
    let fill : nat_eq digit 15 ≡ false = ne_eqb digit 15 (λ e. omega arith) in
    let mark : nat_eq digit 13 ≡ false = ne_eqb digit 13 (λ e. omega arith) in
    rw (fill, mark) (number_of_digits false (suc len) n small)

filled_back : (count : ℕ) (mark : List ℕ) (n : ℕ) (nibbles : List ℕ) (negative : Bool)
    → (n < 10 ^ digit_count 38 n → ibm_number (mark ++ padded_digits (digit_count 38 n) n) ≡ Some (negative, n))
    → ibm_filled count mark n ≡ Some nibbles → ibm_number nibbles ≡ Some (negative, n)
filled_back count mark n nibbles negative back is = by_size (nat_lt n (10 ^ 39)) (nat_le (length mark + len) count) refl is
  where
    len : ℕ
    len = digit_count 38 n

    fill : ℕ
    fill = count - (length mark + len)

    by_size : (a b : Bool) → nat_lt n (10 ^ 39) ≡ a
        → cond (a && b) (Some (replicate fill 15 ++ mark ++ padded_digits len n)) None ≡ Some nibbles → ibm_number nibbles ≡ Some (negative, n)
    by_size false b size h = absurd cc
    by_size true false size h = absurd cc
    by_size true true size h =
        let small : n < 10 ^ 39 = grind (arith, nat_tests) in
        let same : replicate fill 15 ++ mark ++ padded_digits len n ≡ nibbles = cc in
        rw (← same, append_assoc (replicate fill 15) mark (padded_digits len n), fill_skipped fill (mark ++ padded_digits len n)) (back (count_below 38 n small))

pub ibm_back : (count : ℕ) (z : ℤ) (nibbles : List ℕ) → ibm_nibbles count z ≡ Some nibbles
    → ibm_number nibbles ≡ Some (is_negative z, unsigned_abs z)
ibm_back count z nibbles is = by z is
  where
    by : (z : ℤ) → ibm_nibbles count z ≡ Some nibbles → ibm_number nibbles ≡ Some (is_negative z, unsigned_abs z)
    by (pos n) h = filled_back count [] n nibbles false (unmarked_back (digit_count 38 n) n (count_some 38 n)) h
    by (negsuc m) h = filled_back count (13 ∷ []) (suc m) nibbles true (number_of_some true (digit_count 38 (suc m)) (suc m) (count_some 38 (suc m))) h
