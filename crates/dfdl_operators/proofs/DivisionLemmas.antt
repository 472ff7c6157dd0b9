-- Lemmas on division with zeros behind the dividend or the divisor.
use Rattle.std.proofs.Common.{◌≡◌, ℕ, ◌+◌, ◌-◌, ◌*◌, ◌/◌, ◌%◌, ◌^◌, ◌<◌, ◌≤◌, max, sym, ap, ◌∙◌, arith}
use Rattle.std.proofs.Math.Nat.{mul_assoc, div-add-mod, mul-lt-mul_of_pos_right, mod-lt, mod-eq_of_lt}
use Rattle.dfdl_decimal.proofs.DivisionLemmas.{by_parts}
use Rattle.dfdl_decimal.proofs.OrderLemmas.{pow_split, pow_some, some_product}

-- a factor that both have is no matter to the quotient
module _ (m n c : ℕ) (some : 0 < n) (more : 0 < c) where
  split : m * c ≡ m / n * (n * c) + m % n * c
  split = omega (arith, ap (λ k. k * c) (div-add-mod m n))

  less : m % n * c < n * c
  less = mul-lt-mul_of_pos_right (mod-lt m some) more

  pub cancelled : m * c / (n * c) ≡ m / n
  cancelled = ap (λ k. k / (n * c)) split ∙ (by_parts (m / n) (m % n * c) (n * c) (some_product n c some more) less).0

-- the zeros that both have are no matter
pub zeros_above : (x y up down : ℕ) → 0 < y → down ≤ up → x * 10 ^ (up - down) / y ≡ x * 10 ^ up / (y * 10 ^ down)
zeros_above x y up down some le =
    sym (cancelled (x * 10 ^ (up - down)) y (10 ^ down) some (pow_some down))
    ∙ ap (λ n. n / (y * 10 ^ down)) (mul_assoc x (10 ^ (up - down)) (10 ^ down) ∙ ap (λ p. x * p) (sym (pow_split down up le)))

pub zeros_below : (x y up down : ℕ) → 0 < y → up ≤ down → x / (y * 10 ^ (down - up)) ≡ x * 10 ^ up / (y * 10 ^ down)
zeros_below x y up down some le =
    sym (cancelled x (y * 10 ^ (down - up)) (10 ^ up) (some_product y (10 ^ (down - up)) some (pow_some (down - up))) (pow_some up))
    ∙ ap (λ n. x * 10 ^ up / n) (mul_assoc y (10 ^ (down - up)) (10 ^ up) ∙ ap (λ p. y * p) (sym (pow_split up down le)))

-- the divisor with its zeros is not zero
pub some_longer : (y z : ℕ) → 0 < y → 0 < y * 10 ^ z
some_longer y z some = some_product y (10 ^ z) some (pow_some z)

-- a dividend that is less than the divisor is left whole
pub rest_short : (x y s t : ℕ) → t ≤ s → x < y * 10 ^ (s - t) → x ≡ x * 10 ^ (max s t - s) % (y * 10 ^ (max s t - t))
rest_short x y s t le less =
    let greatest : max s t ≡ s = omega arith in
    let none : s - s ≡ 0 = omega arith in
    let one : x * 1 ≡ x = omega arith in
    sym (ap (λ k. x * 10 ^ (k - s) % (y * 10 ^ (k - t))) greatest
    ∙ ap (λ k. x * 10 ^ k % (y * 10 ^ (s - t))) none
    ∙ ap (λ n. n % (y * 10 ^ (s - t))) one
    ∙ mod-eq_of_lt less)
