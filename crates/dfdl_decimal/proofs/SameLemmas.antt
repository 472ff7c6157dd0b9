-- Each number has one shortest form.
use Rattle.std.proofs.Common.{◌≡◌, ◌≢◌, ℕ, zero, suc, ◌-◌, ◌*◌, ◌/◌, ◌%◌, ◌^◌, ◌<◌, Bool, true, false, ◌==◌, if◌then◌else◌, refl, sym, ap, subst, ◌∙◌, inl, inr, arith, pos, ◌*ℤ◌, int_div, int_lt, unsigned_abs, Some, None}
use Rattle.std.proofs.Math.Nat.{pow-suc, mul_assoc, mul-div_cancel}
use Rattle.std.proofs.lemmas.Bool.{cases_order, eqb-true, eqb-false}
use Rattle.std.proofs.lemmas.Int.{ints}
use Rattle.dfdl_decimal.specs.Decimal.{DecimalNumber, IsFixed, SameNumber, shortest_from, is_small, fixed_of, with_sign}
use Rattle.dfdl_decimal.proofs.FixedLemmas.{unsigned_abs-with_sign, int_div-with_sign, is_small-fixed}
use Rattle.dfdl_decimal.proofs.OrderLemmas.{pow_split, pow_some, some_product}
use Rattle.dfdl_decimal.proofs.SumLemmas.{tens, with_sign-abs, mul-with_sign}

-- ---- the shortest form of a magnitude: its digits, and how many stand after the point

abbrev short : ℕ → ℕ → ℕ × ℕ
short zero n = (n, zero)
short (suc s) n = if n % 10 == 0 then short s (n / 10) else (n, suc s)

shortest_from-short : (s : ℕ) (b : Bool) (n : ℕ) → shortest_from s (with_sign b n) ≡ record { mantissa = with_sign b (short s n).0; scale = (short s n).1 }
shortest_from-short zero b n = refl
shortest_from-short (suc s) b n =
    ap (λ m. if m % 10 == 0 then shortest_from s (int_div (with_sign b n) (pos 10)) else record { mantissa = with_sign b n; scale = suc s }) (unsigned_abs-with_sign b n)
    ∙ by_test (shortest_from-short s b (n / 10)) (n % 10 == 0)
  where
    by_test : shortest_from s (with_sign b (n / 10)) ≡ record { mantissa = with_sign b (short s (n / 10)).0; scale = (short s (n / 10)).1 } → (t : Bool) → (if t then shortest_from s (int_div (with_sign b n) (pos 10)) else record { mantissa = with_sign b n; scale = suc s })
        ≡ record { mantissa = with_sign b (if t then short s (n / 10) else (n, suc s)).0; scale = (if t then short s (n / 10) else (n, suc s)).1 }
    by_test rest true = ap (shortest_from s) (int_div-with_sign b n) ∙ rest
    by_test rest false = refl

record IsShort (s n : ℕ) (r : ℕ × ℕ) : Type 0 where
  same : r.0 * 10 ^ s ≡ n * 10 ^ r.1
  last : 0 < r.1 → r.0 % 10 ≢ 0

IsShort-short : (s n : ℕ) → IsShort s n (short s n)
IsShort-short zero n = record { same = refl; last = λ some. elim some [ ] }
IsShort-short (suc s) n = by_test (IsShort-short s (n / 10)) (n % 10 == 0) refl
  where
    by_test : IsShort s (n / 10) (short s (n / 10)) → (t : Bool) → (n % 10 == 0) ≡ t → IsShort (suc s) n (if t then short s (n / 10) else (n, suc s))
    by_test rest true e =
        let m = (short s (n / 10)).0 in
        let t = (short s (n / 10)).1 in
        let whole : n ≡ n / 10 * 10 = let even = eqb-true (n % 10) 0 e in omega arith in
        let more : m * 10 ^ suc s ≡ m * 10 ^ s * 10 = ap (λ p. m * p) (pow-suc 10 s) ∙ sym (mul_assoc m (10 ^ s) 10) in
        let scaled = ap (λ k. k * 10 ^ t) whole in
        record { same = omega (arith, more, rest.same, scaled); last = rest.last }
    by_test rest false e = record { same = refl; last = λ some. eqb-false (n % 10) 0 e }

-- ---- two shortest forms of one number are the same

cancel : (m n c : ℕ) → 0 < c → m * c ≡ n * c → m ≡ n
cancel m n c some e = sym (mul-div_cancel m some) ∙ ap (λ k. k / c) e ∙ mul-div_cancel n some

round : (k m u t : ℕ) → t < u → k * 10 ^ t ≡ m * 10 ^ u → k % 10 ≡ 0
round k m u t less e =
    let split : m * 10 ^ u ≡ m * 10 ^ (u - t) * 10 ^ t = ap (λ p. m * p) (pow_split t u (omega arith)) ∙ sym (mul_assoc m (10 ^ (u - t)) (10 ^ t)) in
    let longer : k ≡ m * 10 ^ (u - t) = cancel k (m * 10 ^ (u - t)) (10 ^ t) (pow_some t) (e ∙ split) in
    let more : m * 10 ^ (u - t) ≡ m * 10 ^ (u - t - 1) * 10 = tens m (u - t) (omega arith) in
    omega (arith, longer, more)

one_form : (k m u t : ℕ) → k * 10 ^ t ≡ m * 10 ^ u → (0 < u → k % 10 ≢ 0) → (0 < t → m % 10 ≢ 0) → (k ≡ m) × (u ≡ t)
one_form k m u t e first second = elim (cases_order t u) [
  | inl same ↦ (cancel k m (10 ^ t) (pow_some t) (e ∙ ap (λ j. m * 10 ^ j) (sym same)), sym same)
  | inr other ↦ elim other [
    | inl less ↦ absurd (first (omega arith) (round k m u t less e))
    | inr greater ↦ absurd (second (omega arith) (round m k t u greater (sym e)))
  ]
]

-- ---- signs

-- a number that is not zero has one sign
one_sign : (b c : Bool) (m n : ℕ) → 0 < m → with_sign b m ≡ with_sign c n → b ≡ c
one_sign true true m n some e = refl
one_sign false false m n some e = refl
one_sign true false zero n some e = elim some [ ]
one_sign true false (suc m) n some e = absurd (cc)
one_sign false true zero n some e = elim some [ ]
one_sign false true (suc m) zero some e = absurd (omega (arith, ints, e))
one_sign false true (suc m) (suc n) some e = absurd (cc)

zero_signs : (b c : Bool) → with_sign b zero ≡ with_sign c zero
zero_signs true true = refl
zero_signs true false = refl
zero_signs false true = refl
zero_signs false false = refl

with_sign-same : (b c : Bool) (k p n q : ℕ) → 0 < p → with_sign c (k * p) ≡ with_sign b (n * q) → with_sign b k ≡ with_sign c k
with_sign-same b c zero p n q some e = zero_signs b c
with_sign-same b c (suc k) p n q some e =
    ap (λ d. with_sign d (suc k)) (sym (one_sign c b (suc k * p) (n * q) (some_product (suc k) p (omega arith) some) e))

-- ---- the law

scaled : (e : DecimalNumber) (k : ℕ) → e.mantissa *ℤ pos (10 ^ k) ≡ with_sign (int_lt e.mantissa (pos 0)) (unsigned_abs e.mantissa * 10 ^ k)
scaled e k = ap (λ z. z *ℤ pos (10 ^ k)) (sym (with_sign-abs e.mantissa)) ∙ mul-with_sign (int_lt e.mantissa (pos 0)) (unsigned_abs e.mantissa) (10 ^ k)

-- the shortest form of a number, by its magnitude
abbrev form : DecimalNumber → DecimalNumber
form d = record { mantissa = with_sign (int_lt d.mantissa (pos 0)) (short d.scale (unsigned_abs d.mantissa)).0; scale = (short d.scale (unsigned_abs d.mantissa)).1 }

shortest_from-form : (d : DecimalNumber) → shortest_from d.scale d.mantissa ≡ form d
shortest_from-form d = ap (shortest_from d.scale) (sym (with_sign-abs d.mantissa)) ∙ shortest_from-short d.scale (int_lt d.mantissa (pos 0)) (unsigned_abs d.mantissa)

SameNumber-form : (d : DecimalNumber) → SameNumber (form d) d
SameNumber-form d =
    let b = int_lt d.mantissa (pos 0) in
    let n = unsigned_abs d.mantissa in
    let r = short d.scale n in
    mul-with_sign b r.0 (10 ^ d.scale) ∙ ap (with_sign b) (IsShort-short d.scale n).same ∙ sym (scaled d r.1)

same_form : (f d : DecimalNumber) → IsFixed f → SameNumber f d → form d ≡ f
same_form f d fixed same =
    let b = int_lt d.mantissa (pos 0) in
    let c = int_lt f.mantissa (pos 0) in
    let n = unsigned_abs d.mantissa in
    let k = unsigned_abs f.mantissa in
    let r = short d.scale n in
    let signed : with_sign c (k * 10 ^ d.scale) ≡ with_sign b (n * 10 ^ f.scale) = sym (scaled f d.scale) ∙ same ∙ scaled d f.scale in
    let magnitudes : k * 10 ^ d.scale ≡ n * 10 ^ f.scale = sym (unsigned_abs-with_sign c (k * 10 ^ d.scale)) ∙ ap unsigned_abs signed ∙ unsigned_abs-with_sign b (n * 10 ^ f.scale) in
    let first = ap (λ j. j * 10 ^ r.1) magnitudes in
    let second = ap (λ j. j * 10 ^ f.scale) (IsShort-short d.scale n).same in
    let whole : k * 10 ^ r.1 ≡ r.0 * 10 ^ f.scale = cancel (k * 10 ^ r.1) (r.0 * 10 ^ f.scale) (10 ^ d.scale) (pow_some d.scale) (omega (arith, first, second)) in
    let one = one_form k r.0 f.scale r.1 whole fixed.shortest (IsShort-short d.scale n).last in
    let sign : with_sign b k ≡ with_sign c k = with_sign-same b c k (10 ^ d.scale) n (10 ^ f.scale) (pow_some d.scale) signed in
    ap (λ j. record { mantissa = with_sign b j; scale = r.1 }) (sym one.0)
    ∙ ap (λ j. record { mantissa = with_sign b k; scale = j }) (sym one.1)
    ∙ ap (λ z. record { mantissa = z; scale = f.scale }) (sign ∙ with_sign-abs f.mantissa)

picked : (t : Bool) (x y : DecimalNumber) → (if t then Some x else None) ≡ Some y → x ≡ y
picked true x y e = cc
picked false x y e = absurd (cc)

pub fixed_of-same : (f d : DecimalNumber) → IsFixed f → (fixed_of d ≡ Some f → SameNumber f d) × (SameNumber f d → fixed_of d ≡ Some f)
fixed_of-same f d fixed = (
  λ e.
      let is : form d ≡ f = sym (shortest_from-form d) ∙ picked (is_small (shortest_from d.scale d.mantissa)) (shortest_from d.scale d.mantissa) f e in
      subst (λ g. SameNumber g d) is (SameNumber-form d),
  λ same.
      ap (λ e. if is_small e then Some e else None) (shortest_from-form d ∙ same_form f d fixed same)
      ∙ ap (λ t. if t then Some f else None) (is_small-fixed f fixed),
)
