-- Lemmas on sums at two scales.
use Rattle.std.proofs.Common.{◌≡◌, ◌≢◌, ℕ, zero, suc, ◌+◌, ◌-◌, ◌*◌, ◌%◌, ◌^◌, ◌<◌, ◌≤◌, Bool, true, false, refl, sym, ap, ◌∙◌, inl, inr, arith, ◌+ℤ◌, max, None}
use Rattle.std.proofs.lemmas.Bool.{cases_lt}
use Rattle.std.proofs.Math.IntN.{+ℤ_comm}
use Rattle.std.proofs.Math.Nat.{max_comm}
use Rattle.dfdl_decimal.specs.Arithmetic.{mantissa_at, sum_of}
use Rattle.dfdl_decimal.specs.Decimal.{DecimalNumber, with_sign}
use Rattle.dfdl_decimal.proofs.SumLemmas.{add-same, add-greater, tens, mul-with_sign}
use Rattle.dfdl_operators.specs.Numbers.{held}
use Rattle.dfdl_operators.proofs.HeldLemmas.{held-far, held-long}

abbrev at : Bool → ℕ → ℕ → DecimalNumber
at b n s = record { mantissa = with_sign b n; scale = s }

abbrev sum_at_scale : ℕ → DecimalNumber → DecimalNumber → DecimalNumber
sum_at_scale k a b = record { mantissa = mantissa_at k a +ℤ mantissa_at k b; scale = k }

-- the sum of two numbers, of which the first has no fewer digits behind the point
pub sum_of-digits : (a b : Bool) (x y s t : ℕ) → t ≤ s → record { mantissa = with_sign a x +ℤ with_sign b (y * 10 ^ (s - t)); scale = s } ≡ sum_of (at a x s) (at b y t)
sum_of-digits a b x y s t le =
    let greatest : max s t ≡ s = omega arith in
    let none : s - s ≡ 0 = omega arith in
    let one : x * 1 ≡ x = omega arith in
    let left : mantissa_at s (at a x s) ≡ with_sign a x = mul-with_sign a x (10 ^ (s - s)) ∙ ap (λ k. with_sign a (x * 10 ^ k)) none ∙ ap (with_sign a) one in
    let right : mantissa_at s (at b y t) ≡ with_sign b (y * 10 ^ (s - t)) = mul-with_sign b y (10 ^ (s - t)) in
    sym (ap (λ k. sum_at_scale k (at a x s) (at b y t)) greatest
    ∙ ap (λ z. record { mantissa = z +ℤ mantissa_at s (at b y t); scale = s }) left
    ∙ ap (λ z. record { mantissa = with_sign a x +ℤ z; scale = s }) right)

-- no value carries a sum of a fraction and a number with too many digits
far_sum : (b c : Bool) (x t s : ℕ) → 0 < s → x < 10 ^ 38 → x % 10 ≢ 0 → 2 ^ 128 ≤ t * 10 → held (record { mantissa = with_sign b x +ℤ with_sign c (t * 10); scale = s }) ≡ None
far_sum b c x t s some small last far = by_signs b c
  where
    plus : (x + t * 10) % 10 ≢ 0
    plus = λ e. last (omega arith)

    minus : (t * 10 - x) % 10 ≢ 0
    minus = λ e. last (omega arith)

    by_signs : (b c : Bool) → held (record { mantissa = with_sign b x +ℤ with_sign c (t * 10); scale = s }) ≡ None
    by_signs true true = ap (λ z. held (record { mantissa = z; scale = s })) (add-same true x (t * 10)) ∙ held-long (at true (x + t * 10) s) true (x + t * 10) s refl (λ _. plus) some (omega arith)
    by_signs false false = ap (λ z. held (record { mantissa = z; scale = s })) (add-same false x (t * 10)) ∙ held-long (at false (x + t * 10) s) false (x + t * 10) s refl (λ _. plus) some (omega arith)
    by_signs true false = ap (λ z. held (record { mantissa = z; scale = s })) (add-greater true x (t * 10) (omega arith)) ∙ held-long (at false (t * 10 - x) s) false (t * 10 - x) s refl (λ _. minus) some (omega arith)
    by_signs false true = ap (λ z. held (record { mantissa = z; scale = s })) (add-greater false x (t * 10) (omega arith)) ∙ held-long (at true (t * 10 - x) s) true (t * 10 - x) s refl (λ _. minus) some (omega arith)

some_zeros : (y k : ℕ) → y < 2 ^ 128 → 2 ^ 128 ≤ y * 10 ^ k → 0 < k
some_zeros y zero few far = absurd (omega (arith, few, far))
some_zeros y (suc k) few far = omega arith

module _ (b c : Bool) (x y s t : ℕ) (digits : 0 < s → x < 10 ^ 38) (last : 0 < s → x % 10 ≢ 0) (short : 0 < t → y < 10 ^ 38) (le : t ≤ s) where
  pub sum-far : y < 2 ^ 128 → 2 ^ 128 ≤ y * 10 ^ (s - t) → held (sum_of (at b x s) (at c y t)) ≡ None
  sum-far few far =
      let more : 0 < s - t = some_zeros y (s - t) few far in
      let some : 0 < s = omega arith in
      let e = tens y (s - t) more in
      ap held (sym (sum_of-digits b c x y s t le))
      ∙ ap (λ m. held (record { mantissa = with_sign b x +ℤ with_sign c m; scale = s })) e
      ∙ far_sum b c x (y * 10 ^ (s - t - 1)) s some (digits some) (last some) (omega (arith, e))

  -- two fractions with as many digits behind the point
  level : 0 < s → s - t ≡ 0 → y * 10 ^ (s - t) < 10 ^ 38
  level some none =
      let few : y < 10 ^ 38 = short (omega arith) in
      let same : y * 10 ^ (s - t) ≡ y * 1 = ap (λ k. y * 10 ^ k) none in
      omega (arith, same)

  long_fraction : 0 < s → 2 ^ 128 ≤ x + y * 10 ^ (s - t) → held (at b (x + y * 10 ^ (s - t)) s) ≡ None
  long_fraction some far = elim (cases_lt 0 (s - t)) [
    | inl more ↦ let e = tens y (s - t) more in let n = y * 10 ^ (s - t - 1) in let other : x % 10 ≢ 0 = last some in let round : (x + n * 10) % 10 ≢ 0 = λ h. other (omega arith) in
        ap (λ m. held (at b (x + m) s)) e ∙ held-long (at b (x + n * 10) s) b (x + n * 10) s refl (λ _. round) some (omega (arith, e, far))
    | inr none ↦ absurd (omega (arith, far, digits some, level some (omega arith)))
  ]

  long_number : 2 ^ 128 ≤ x + y * 10 ^ (s - t) → held (at b (x + y * 10 ^ (s - t)) s) ≡ None
  long_number far = elim (cases_lt 0 s) [
    | inl some ↦ long_fraction some far
    | inr none ↦ held-far (at b (x + y * 10 ^ (s - t)) s) b (x + y * 10 ^ (s - t)) s refl (λ some. absurd (omega arith)) far
  ]

  pub sum-long : b ≡ c → 2 ^ 128 ≤ x + y * 10 ^ (s - t) → held (sum_of (at b x s) (at c y t)) ≡ None
  sum-long same far =
      ap held (sym (sum_of-digits b c x y s t le))
      ∙ ap (λ d. held (record { mantissa = with_sign b x +ℤ with_sign d (y * 10 ^ (s - t)); scale = s })) (sym same)
      ∙ ap (λ z. held (record { mantissa = z; scale = s })) (add-same b x (y * 10 ^ (s - t)))
      ∙ long_number far

-- the order of the numbers is no matter
pub sum_of-turned : (a b : DecimalNumber) → sum_of a b ≡ sum_of b a
sum_of-turned a b =
    ap (λ k. sum_at_scale k a b) (max_comm a.scale b.scale)
    ∙ ap (λ z. record { mantissa = z; scale = max b.scale a.scale }) (+ℤ_comm (mantissa_at (max b.scale a.scale) a) (mantissa_at (max b.scale a.scale) b))
