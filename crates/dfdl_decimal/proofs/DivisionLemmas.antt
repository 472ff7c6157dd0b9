-- Long division.
use Rattle.std.proofs.Common.{◌≡◌, ◌≢◌, ℕ, zero, suc, ◌+◌, ◌*◌, ◌/◌, ◌%◌, ◌^◌, ◌<◌, sym, ap, ◌∙◌, arith, mod-lt}
use Rattle.std.proofs.Math.Nat.{div-add-mod, mul-add-div_right, mul-add-mod_self_right, div-eq_of_lt, mod-eq_of_lt, lt_of_mul-lt-mul_right, mul_assoc}
use Rattle.std.proofs.lemmas.Nat.{pow-add}
use Rattle.dfdl_decimal.proofs.FixedLemmas.{not_round}

-- the quotient and the remainder of a number that is given by both
pub by_parts : (q r y : ℕ) → 0 < y → r < y → ((q * y + r) / y ≡ q) × ((q * y + r) % y ≡ r)
by_parts q r y some less = (
  mul-add-div_right some q r ∙ ap (λ k. q + k) (div-eq_of_lt less) ∙ omega arith,
  mul-add-mod_self_right q y r ∙ mod-eq_of_lt less,
)

pub pow_more : (x k : ℕ) → x * 10 ^ (k + 1) ≡ x * 10 ^ k * 10
pow_more x k = ap (λ p. x * p) (pow-add 10 k 1) ∙ sym (mul_assoc x (10 ^ k) 10)

some_factor : (d y n : ℕ) → 0 < n → d * y ≡ n → 0 < d
some_factor zero y n some e = absurd (omega (arith, e, some))
some_factor (suc d) y n some e = omega arith

-- one digit of a long division
module _ (x k y d r : ℕ) (some : 0 < y) (less : r < y) (is : d * y + r ≡ x * 10 ^ k % y * 10) where
  split : x * 10 ^ (k + 1) ≡ (x * 10 ^ k / y * 10 + d) * y + r
  split =
      let whole = div-add-mod (x * 10 ^ k) y in
      omega (arith, pow_more x k, whole, is)

  pub next_quotient : x * 10 ^ (k + 1) / y ≡ x * 10 ^ k / y * 10 + d
  next_quotient = ap (λ n. n / y) split ∙ (by_parts (x * 10 ^ k / y * 10 + d) r y some less).0

  pub next_rest : x * 10 ^ (k + 1) % y ≡ r
  next_rest = ap (λ n. n % y) split ∙ (by_parts (x * 10 ^ k / y * 10 + d) r y some less).1

  pub next_last : 0 < x * 10 ^ k % y → r ≡ 0 → x * 10 ^ (k + 1) / y % 10 ≢ 0
  next_last left none =
      let q = x * 10 ^ k / y in
      let rest_less : x * 10 ^ k % y < y = mod-lt (x * 10 ^ k) some in
      let digit : d < 10 = lt_of_mul-lt-mul_right y (omega (arith, is, none, rest_less)) in
      let positive : 0 < d = some_factor d y (x * 10 ^ k % y * 10) (omega (arith, left)) (omega (arith, is, none)) in
      λ e. not_round q d positive digit (ap (λ n. n % 10) (sym next_quotient) ∙ e)
