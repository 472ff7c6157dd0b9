-- Lemmas on exact quotients at 18 digits behind the point.
use Rattle.std.proofs.Common.{◌≡◌, ◌≢◌, ℕ, ◌+◌, ◌-◌, ◌*◌, ◌%◌, ◌^◌, ◌≤◌, Bool, not, if◌then◌else◌, sym, ap, ◌∙◌, inl, inr, arith, None, Err, pos, int_lt, unsigned_abs}
use Rattle.std.specs.Bool.{beq}
use Rattle.std.proofs.Math.Nat.{mul_assoc, le-mul_of_pos_right}
use Rattle.std.proofs.lemmas.Bool.{cases_lt, ne_eqb}
use Rattle.dfdl_decimal.specs.Arithmetic.{exact_quotient}
use Rattle.dfdl_decimal.specs.Decimal.{DecimalNumber, shortest_from, with_sign}
use Rattle.dfdl_decimal.proofs.FixedLemmas.{shortest_from-shift, unsigned_abs-with_sign}
use Rattle.dfdl_decimal.proofs.OrderLemmas.{pow_split, pow_some}
use Rattle.dfdl_operators.specs.Numbers.{held, held_shortest}
use Rattle.dfdl_operators.specs.Operators.{exactly, quotient_answer}
use Rattle.dfdl_operators.specs.declared.fault.OperatorFault.TheVariants.{NoQuotient}
use Rattle.dfdl_operators.proofs.HeldLemmas.{held-far}

abbrev at : Bool → ℕ → ℕ → DecimalNumber
at b n s = record { mantissa = with_sign b n; scale = s }

module _ (b : Bool) (n z : ℕ) where
  few : z ≤ 18 → shortest_from (18 - z) (with_sign b n) ≡ shortest_from 18 (with_sign b (n * 10 ^ z))
  few le =
      let scale : 18 - z + z ≡ 18 = omega arith in
      sym (shortest_from-shift z (18 - z) b n) ∙ ap (λ k. shortest_from k (with_sign b (n * 10 ^ z))) scale

  many : 18 ≤ z → shortest_from 0 (with_sign b (n * 10 ^ (z - 18))) ≡ shortest_from 18 (with_sign b (n * 10 ^ z))
  many le =
      let longer : n * 10 ^ (z - 18) * 10 ^ 18 ≡ n * 10 ^ z = mul_assoc n (10 ^ (z - 18)) (10 ^ 18) ∙ ap (λ p. n * p) (sym (pow_split 18 z le)) in
      sym (shortest_from-shift 18 0 b (n * 10 ^ (z - 18))) ∙ ap (λ k. shortest_from 18 (with_sign b k)) longer

  pub held-few : z ≤ 18 → held (at b n (18 - z)) ≡ held (at b (n * 10 ^ z) 18)
  held-few le = ap held_shortest (few le)

  pub held-many : 18 ≤ z → held (at b (n * 10 ^ (z - 18)) 0) ≡ held (at b (n * 10 ^ z) 18)
  held-many le = ap held_shortest (many le)

  pub past_longer : 18 ≤ z → 2 ^ 128 ≤ n * 10 ^ (z - 18) → held (at b (n * 10 ^ z) 18) ≡ None
  past_longer le far = held-far (at b (n * 10 ^ z) 18) b (n * 10 ^ (z - 18)) 0 (many le) (λ some. elim some [ ]) far

  -- no value carries a quotient of a number with too many digits, the last of which is no zero
  pub past_number : 2 ^ 128 ≤ n → n % 10 ≢ 0 → held (at b (n * 10 ^ z) 18) ≡ None
  past_number far last = elim (cases_lt 18 z) [
    | inl less ↦ past_longer (omega arith) (omega (arith, far, le-mul_of_pos_right n (pow_some (z - 18))))
    | inr le ↦ held-far (at b (n * 10 ^ z) 18) b n (18 - z) (few le) (λ _. last) far
  ]

-- what a quotient answers, by the parts of its operands
pub answer-parts : (p q : Bool) (x y s t : ℕ) → p ≡ int_lt (with_sign p x) (pos 0) → q ≡ int_lt (with_sign q y) (pos 0) → y ≢ 0
    → exactly (exact_quotient (not (beq p q)) (x * 10 ^ (t + 18)) (y * 10 ^ s)) ≡ quotient_answer (at p x s) (at q y t)
answer-parts p q x y s t e f some =
    let other : unsigned_abs (with_sign q y) ≢ 0 = λ h. some (sym (unsigned_abs-with_sign q y) ∙ h) in
    ap (λ v. exactly (exact_quotient (not (beq v q)) (x * 10 ^ (t + 18)) (y * 10 ^ s))) e
    ∙ ap (λ v. exactly (exact_quotient (not (beq (int_lt (with_sign p x) (pos 0)) v)) (x * 10 ^ (t + 18)) (y * 10 ^ s))) f
    ∙ ap (λ v. exactly (exact_quotient (not (beq (int_lt (with_sign p x) (pos 0)) (int_lt (with_sign q y) (pos 0)))) (v * 10 ^ (t + 18)) (y * 10 ^ s))) (sym (unsigned_abs-with_sign p x))
    ∙ ap (λ v. exactly (exact_quotient (not (beq (int_lt (with_sign p x) (pos 0)) (int_lt (with_sign q y) (pos 0)))) (unsigned_abs (with_sign p x) * 10 ^ (t + 18)) (v * 10 ^ s))) (sym (unsigned_abs-with_sign q y))
    ∙ sym (ap (λ v. if v then Err NoQuotient else exactly (exact_quotient (not (beq (int_lt (with_sign p x) (pos 0)) (int_lt (with_sign q y) (pos 0)))) (unsigned_abs (with_sign p x) * 10 ^ (t + 18)) (unsigned_abs (with_sign q y) * 10 ^ s))) (ne_eqb _ _ other))
