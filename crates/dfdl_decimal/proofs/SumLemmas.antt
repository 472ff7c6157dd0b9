-- Sums of signed numbers.
use Rattle.std.proofs.Common.{◌≡◌, ◌≢◌, ℕ, zero, suc, ◌+◌, ◌-◌, ◌*◌, ◌%◌, ◌^◌, ◌<◌, ◌≤◌, Bool, true, false, not, if◌then◌else◌, ◌&&◌, nat_lt, refl, sym, ap, ◌∙◌, arith, ℤ, pos, negsuc, neg_ℤ, ◌+ℤ◌, ◌*ℤ◌, int_lt, max, unsigned_abs, Some, None}
use Rattle.std.proofs.Math.Nat.{pow-suc, mul_assoc, zero-mul}
use Rattle.std.proofs.lemmas.Int.{ints}
use Rattle.std.proofs.lemmas.Bool.{le-ltb}
use Rattle.dfdl_decimal.specs.Arithmetic.{mantissa_at, sum_of}
use Rattle.dfdl_decimal.specs.Decimal.{DecimalNumber, shortest_from, is_small, fixed_of, with_sign}
use Rattle.dfdl_decimal.proofs.FixedLemmas.{unsigned_abs-with_sign, shortest_from-fixed}

pub add-same : (b : Bool) (m n : ℕ) → with_sign b m +ℤ with_sign b n ≡ with_sign b (m + n)
add-same true m n = omega (arith, ints)
add-same false m n = refl

pub add-less : (b : Bool) (m n : ℕ) → n ≤ m → with_sign b m +ℤ with_sign (not b) n ≡ with_sign b (m - n)
add-less true m n h = omega (arith, ints)
add-less false m n h = omega (arith, ints)

pub add-greater : (b : Bool) (m n : ℕ) → m ≤ n → with_sign b m +ℤ with_sign (not b) n ≡ with_sign (not b) (n - m)
add-greater true m n h = omega (arith, ints)
add-greater false m n h = omega (arith, ints)

-- what has too many digits, and no zero at its end, has no form
pub fixed_of-far : (b : Bool) (n s : ℕ) → 10 ^ 38 ≤ n → (0 < s → n % 10 ≢ 0) → fixed_of (record { mantissa = with_sign b n; scale = s }) ≡ None
fixed_of-far b n s far last =
    let past : 10 ^ 38 ≤ unsigned_abs (with_sign b n) = rw unsigned_abs-with_sign far in
    ap (λ d. if is_small d then Some d else None) (shortest_from-fixed (with_sign b n) s (λ some. rw unsigned_abs-with_sign (last some)))
    ∙ ap (λ t. if t && nat_lt s 256 then Some (record { mantissa = with_sign b n; scale = s }) else None) (le-ltb _ _ past)

-- zeros behind a number
pub tens : (y k : ℕ) → 0 < k → y * 10 ^ k ≡ (y * 10 ^ (k - 1)) * 10
tens y k some =
    let e : k ≡ suc (k - 1) = omega arith in
    ap (λ j. y * 10 ^ j) e ∙ ap (λ p. y * p) (pow-suc 10 (k - 1)) ∙ sym (mul_assoc y (10 ^ (k - 1)) 10)

-- one of the numbers has too many digits
far_sum : (b c : Bool) (x t s : ℕ) → x < 10 ^ 38 → x % 10 ≢ 0 → 2 ^ 128 ≤ t * 10 → fixed_of (record { mantissa = with_sign b x +ℤ with_sign c (t * 10); scale = s }) ≡ None
far_sum b c x t s small last far = by_signs b c
  where
    plus : (x + t * 10) % 10 ≢ 0
    plus = λ e. last (omega arith)

    minus : (t * 10 - x) % 10 ≢ 0
    minus = λ e. last (omega arith)

    by_signs : (b c : Bool) → fixed_of (record { mantissa = with_sign b x +ℤ with_sign c (t * 10); scale = s }) ≡ None
    by_signs true true = ap (λ z. fixed_of (record { mantissa = z; scale = s })) (add-same true x (t * 10)) ∙ fixed_of-far true (x + t * 10) s (omega arith) (λ _. plus)
    by_signs false false = ap (λ z. fixed_of (record { mantissa = z; scale = s })) (add-same false x (t * 10)) ∙ fixed_of-far false (x + t * 10) s (omega arith) (λ _. plus)
    by_signs true false = ap (λ z. fixed_of (record { mantissa = z; scale = s })) (add-greater true x (t * 10) (omega arith)) ∙ fixed_of-far false (t * 10 - x) s (omega arith) (λ _. minus)
    by_signs false true = ap (λ z. fixed_of (record { mantissa = z; scale = s })) (add-greater false x (t * 10) (omega arith)) ∙ fixed_of-far true (t * 10 - x) s (omega arith) (λ _. minus)

some_zeros : (x y k : ℕ) → x < 10 ^ 38 → y < 10 ^ 38 → 2 ^ 128 ≤ x + y * 10 ^ k → 0 < k
some_zeros x y zero small few far = absurd (omega arith)
some_zeros x y (suc k) small few far = omega arith

module _ (b c : Bool) (x y k s : ℕ) (small : x < 10 ^ 38) (few : y < 10 ^ 38) (within : k ≤ s) (last : 0 < s → x % 10 ≢ 0) where
  pub sum_far : 2 ^ 128 ≤ y * 10 ^ k → fixed_of (record { mantissa = with_sign b x +ℤ with_sign c (y * 10 ^ k); scale = s }) ≡ None
  sum_far far =
      let some : 0 < k = some_zeros x y k small few (omega arith) in
      let e = tens y k some in
      ap (λ m. fixed_of (record { mantissa = with_sign b x +ℤ with_sign c m; scale = s })) e
      ∙ far_sum b c x (y * 10 ^ (k - 1)) s small (last (omega arith)) (omega (arith, e))

  pub sum_long : b ≡ c → 2 ^ 128 ≤ x + y * 10 ^ k → fixed_of (record { mantissa = with_sign b x +ℤ with_sign c (y * 10 ^ k); scale = s }) ≡ None
  sum_long same far =
      let some : 0 < k = some_zeros x y k small few far in
      let e = tens y k some in
      let other : x % 10 ≢ 0 = last (omega arith) in
      let t = y * 10 ^ (k - 1) in
      let long : 10 ^ 38 ≤ x + t * 10 = omega (arith, e) in
      let round : (x + t * 10) % 10 ≢ 0 = λ h. other (omega arith) in
      ap (λ m. fixed_of (record { mantissa = with_sign b x +ℤ with_sign c m; scale = s })) e
      ∙ ap (λ d. fixed_of (record { mantissa = with_sign b x +ℤ with_sign d (t * 10); scale = s })) (sym same)
      ∙ ap (λ z. fixed_of (record { mantissa = z; scale = s })) (add-same b x (t * 10))
      ∙ fixed_of-far b (x + t * 10) s long (λ _. round)

-- ---- a number by its sign and its magnitude

pub with_sign-abs : (z : ℤ) → with_sign (int_lt z (pos 0)) (unsigned_abs z) ≡ z
with_sign-abs (pos n) = ap (λ b. with_sign b n) (le-ltb n 0 (omega arith))
with_sign-abs (negsuc n) = refl

pub mul-with_sign : (b : Bool) (n k : ℕ) → with_sign b n *ℤ pos k ≡ with_sign b (n * k)
mul-with_sign true zero k = ap pos (zero-mul k) ∙ ap (λ m. neg_ℤ (pos m)) (sym (zero-mul k))
mul-with_sign true (suc n) k = refl
mul-with_sign false n k = refl

mantissa_at-signed : (s : ℕ) (d : DecimalNumber) → mantissa_at s d ≡ with_sign (int_lt d.mantissa (pos 0)) (unsigned_abs d.mantissa * 10 ^ (s - d.scale))
mantissa_at-signed s d =
    ap (λ z. z *ℤ pos (10 ^ (s - d.scale))) (sym (with_sign-abs d.mantissa)) ∙ mul-with_sign (int_lt d.mantissa (pos 0)) (unsigned_abs d.mantissa) (10 ^ (s - d.scale))

mantissa_at-same : (d : DecimalNumber) → mantissa_at d.scale d ≡ with_sign (int_lt d.mantissa (pos 0)) (unsigned_abs d.mantissa)
mantissa_at-same d =
    let none : d.scale - d.scale ≡ 0 = omega arith in
    let one : unsigned_abs d.mantissa * 1 ≡ unsigned_abs d.mantissa = omega arith in
    mantissa_at-signed d.scale d
    ∙ ap (λ k. with_sign (int_lt d.mantissa (pos 0)) (unsigned_abs d.mantissa * 10 ^ k)) none
    ∙ ap (λ n. with_sign (int_lt d.mantissa (pos 0)) n) one

abbrev sum_at_scale : ℕ → DecimalNumber → DecimalNumber → DecimalNumber
sum_at_scale k a b = record { mantissa = mantissa_at k a +ℤ mantissa_at k b; scale = k }

pub sum_of-long : (a b : DecimalNumber) (na nb : Bool) (x y s z : ℕ) → na ≡ int_lt a.mantissa (pos 0) → nb ≡ int_lt b.mantissa (pos 0) → x ≡ unsigned_abs a.mantissa → y ≡ unsigned_abs b.mantissa
    → s ≡ a.scale → z ≡ a.scale - b.scale → b.scale ≤ a.scale
    → fixed_of (record { mantissa = with_sign na x +ℤ with_sign nb (y * 10 ^ z); scale = s }) ≡ fixed_of (sum_of a b)
sum_of-long a b na nb x y s z e1 e2 e3 e4 e5 e6 le =
    let greatest : max a.scale b.scale ≡ a.scale = omega arith in
    let left : with_sign na x ≡ mantissa_at a.scale a = cc (sym (mantissa_at-same a)) in
    let right : with_sign nb (y * 10 ^ z) ≡ mantissa_at a.scale b = cc (sym (mantissa_at-signed a.scale b)) in
    let same : sum_at_scale a.scale a b ≡ sum_of a b = ap (λ k. sum_at_scale k a b) (sym greatest) in
    ap (λ k. fixed_of (record { mantissa = with_sign na x +ℤ with_sign nb (y * 10 ^ z); scale = k })) e5
    ∙ ap (λ m. fixed_of (record { mantissa = m +ℤ with_sign nb (y * 10 ^ z); scale = a.scale })) left
    ∙ ap (λ m. fixed_of (record { mantissa = mantissa_at a.scale a +ℤ m; scale = a.scale })) right
    ∙ ap fixed_of same

-- the form of a number whose shortest writing has too many digits
pub fixed_of-past : (d : DecimalNumber) (b : Bool) (n s : ℕ) → shortest_from s (with_sign b n) ≡ shortest_from d.scale d.mantissa → 10 ^ 38 ≤ n → (0 < s → n % 10 ≢ 0) → fixed_of d ≡ None
fixed_of-past d b n s same far last =
    ap (λ e. if is_small e then Some e else None) (sym same) ∙ fixed_of-far b n s far last
