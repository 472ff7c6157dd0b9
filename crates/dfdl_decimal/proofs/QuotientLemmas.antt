-- Quotients and their digits after the point.
use Rattle.std.proofs.Common.{◌≡◌, ◌≢◌, ℕ, zero, suc, ◌+◌, ◌-◌, ◌*◌, ◌/◌, ◌%◌, ◌^◌, ◌<◌, ◌≤◌, Bool, not, ◌==◌, if◌then◌else◌, sym, ap, subst, ◌∙◌, inl, inr, arith, Option, Some, None, Err, pos, int_lt, unsigned_abs}
use Rattle.std.specs.Bool.{beq}
use Rattle.dfdl_decimal.specs.declared.fixed.DivFault.TheVariants.{Zero}
use Rattle.std.specs.Option.{SomeIff}
use Rattle.std.proofs.Math.Nat.{mul_assoc, zero-mul, div-add-mod, mul-lt-mul_of_pos_right, le-mul_of_pos_right, mod-lt, mod-eq_of_lt, div-le_self}
use Rattle.std.proofs.Math.Dec.{eqb-suc-zero}
use Rattle.std.proofs.lemmas.Bool.{cases_lt, eq-eqb, ne_eqb}
use Rattle.dfdl_decimal.specs.Arithmetic.{exact_quotient, quotient_of, quotient_answer, division_of}
use Rattle.dfdl_decimal.proofs.DivisionLemmas.{by_parts}
use Rattle.dfdl_decimal.specs.Decimal.{DecimalNumber, shortest_from, fixed_of, is_small, with_sign}
use Rattle.dfdl_decimal.proofs.FixedLemmas.{shortest_from-shift}
use Rattle.dfdl_decimal.proofs.OrderLemmas.{pow_split, pow_some, some_product}
use Rattle.dfdl_decimal.proofs.SumLemmas.{fixed_of-past}

-- a number that is or isn't held in 128 bits
pub held_is : (o : Option ℕ) (m n : ℕ) → o ≡ Some m → SomeIff o (n < 2 ^ 128) n → m ≡ n
held_is o m n e is = let P : Option ℕ → Type 0 = λ v. SomeIff v (n < 2 ^ 128) n in (subst P e is).1

pub held_none : (o : Option ℕ) (n : ℕ) → o ≡ None → SomeIff o (n < 2 ^ 128) n → 2 ^ 128 ≤ n
held_none o n e is = let P : Option ℕ → Type 0 = λ v. SomeIff v (n < 2 ^ 128) n in let past : n < 2 ^ 128 → ⊥ = subst P e is in omega (arith, past)

module _ (b : Bool) (n z : ℕ) where
  few : z ≤ 18 → shortest_from (18 - z) (with_sign b n) ≡ shortest_from 18 (with_sign b (n * 10 ^ z))
  few le =
      let scale : 18 - z + z ≡ 18 = omega arith in
      sym (shortest_from-shift z (18 - z) b n) ∙ ap (λ k. shortest_from k (with_sign b (n * 10 ^ z))) scale

  many : 18 ≤ z → shortest_from 0 (with_sign b (n * 10 ^ (z - 18))) ≡ shortest_from 18 (with_sign b (n * 10 ^ z))
  many le =
      let longer : n * 10 ^ (z - 18) * 10 ^ 18 ≡ n * 10 ^ z = mul_assoc n (10 ^ (z - 18)) (10 ^ 18) ∙ ap (λ p. n * p) (sym (pow_split 18 z le)) in
      sym (shortest_from-shift 18 0 b (n * 10 ^ (z - 18))) ∙ ap (λ k. shortest_from 18 (with_sign b k)) longer

  pub fixed_of-few : z ≤ 18 → fixed_of (record { mantissa = with_sign b n; scale = 18 - z }) ≡ fixed_of (record { mantissa = with_sign b (n * 10 ^ z); scale = 18 })
  fixed_of-few le = ap (λ d. if is_small d then Some d else None) (few le)

  pub fixed_of-many : 18 ≤ z → fixed_of (record { mantissa = with_sign b (n * 10 ^ (z - 18)); scale = 0 }) ≡ fixed_of (record { mantissa = with_sign b (n * 10 ^ z); scale = 18 })
  fixed_of-many le = ap (λ d. if is_small d then Some d else None) (many le)

  pub past_longer : 18 ≤ z → 10 ^ 38 ≤ n * 10 ^ (z - 18) → fixed_of (record { mantissa = with_sign b (n * 10 ^ z); scale = 18 }) ≡ None
  past_longer le far = fixed_of-past (record { mantissa = with_sign b (n * 10 ^ z); scale = 18 }) b (n * 10 ^ (z - 18)) 0 (many le) far (λ some. elim some [ ])

  pub past_number : 2 ^ 128 ≤ n → n % 10 ≢ 0 → fixed_of (record { mantissa = with_sign b (n * 10 ^ z); scale = 18 }) ≡ None
  past_number far last = elim (cases_lt 18 z) [
    | inl less ↦ past_longer (omega arith) (omega (arith, le-mul_of_pos_right n (pow_some (z - 18))))
    | inr le ↦ fixed_of-past (record { mantissa = with_sign b (n * 10 ^ z); scale = 18 }) b n (18 - z) (few le) (omega arith) (λ _. last)
  ]

-- ---- exact quotients

zero_test : (r c : ℕ) → 0 < c → (r * c == 0) ≡ (r == 0)
zero_test zero c some = eq-eqb _ _ (zero-mul c)
zero_test (suc r) c some = ne_eqb (suc r * c) 0 (λ e. omega (arith, some_product (suc r) c (omega arith) some)) ∙ sym (eqb-suc-zero r)

exact_is : (b : Bool) (m n q : ℕ) (t : Bool) → (m % n == 0) ≡ t → m / n ≡ q → exact_quotient b m n ≡ (if t then Some (record { mantissa = with_sign b q; scale = 18 }) else None)
exact_is b m n q t e f =
    ap (λ v. if v then Some (record { mantissa = with_sign b (m / n); scale = 18 }) else None) e
    ∙ ap (λ k. if t then Some (record { mantissa = with_sign b k; scale = 18 }) else None) f

pub exact_cancel : (b : Bool) (m n c : ℕ) → 0 < n → 0 < c → exact_quotient b (m * c) (n * c) ≡ exact_quotient b m n
exact_cancel b m n c some more =
    let whole : m * c ≡ m / n * (n * c) + m % n * c = omega (arith, ap (λ k. k * c) (div-add-mod m n)) in
    let less : m % n * c < n * c = mul-lt-mul_of_pos_right (mod-lt m some) more in
    let parts = by_parts (m / n) (m % n * c) (n * c) (some_product n c some more) less in
    let rest : m * c % (n * c) ≡ m % n * c = ap (λ k. k % (n * c)) whole ∙ parts.1 in
    let times : m * c / (n * c) ≡ m / n = ap (λ k. k / (n * c)) whole ∙ parts.0 in
    exact_is b (m * c) (n * c) (m / n) (m % n == 0) (ap (λ k. k == 0) rest ∙ zero_test (m % n) c more) times

-- an exact quotient, by its parts
pub exact_by : (b : Bool) (m n q : ℕ) → 0 < n → m ≡ q * n → exact_quotient b m n ≡ Some (record { mantissa = with_sign b q; scale = 18 })
exact_by b m n q some e =
    let whole : m ≡ q * n + 0 = omega arith in
    let parts = by_parts q 0 n some some in
    let rest : m % n ≡ 0 = ap (λ k. k % n) whole ∙ parts.1 in
    let times : m / n ≡ q = ap (λ k. k / n) whole ∙ parts.0 in
    ap (λ t. if t then Some (record { mantissa = with_sign b (m / n); scale = 18 }) else None) (eq-eqb _ _ rest)
    ∙ ap (λ k. Some (record { mantissa = with_sign b k; scale = 18 })) times

pub inexact_by : (b : Bool) (m n : ℕ) → m % n ≢ 0 → exact_quotient b m n ≡ None
inexact_by b m n rest = ap (λ t. if t then Some (record { mantissa = with_sign b (m / n); scale = 18 }) else None) (ne_eqb _ _ rest)

longer_dividend : (x y k z : ℕ) → k ≤ z → x * 10 ^ k % y ≡ 0 → x * 10 ^ z ≡ x * 10 ^ k / y * 10 ^ (z - k) * y
longer_dividend x y k z le none =
    let p = 10 ^ (z - k) in
    let split : x * 10 ^ z ≡ x * (p * 10 ^ k) = ap (λ n. x * n) (pow_split k z le) in
    let whole = ap (λ n. n * p) (div-add-mod (x * 10 ^ k) y) in
    let gone = ap (λ n. n * p) none in
    omega (arith, split, whole, gone)

-- zeros behind a dividend that is divided already
pub exact_longer : (b : Bool) (x y k z : ℕ) → 0 < y → k ≤ z → x * 10 ^ k % y ≡ 0 → exact_quotient b (x * 10 ^ z) y ≡ Some (record { mantissa = with_sign b (x * 10 ^ k / y * 10 ^ (z - k)); scale = 18 })
exact_longer b x y k z some le none =
    let whole : x * 10 ^ z ≡ x * 10 ^ k / y * 10 ^ (z - k) * y = longer_dividend x y k z le none in
    exact_by b (x * 10 ^ z) y (x * 10 ^ k / y * 10 ^ (z - k)) some whole

pub last_of : (P : Type 0) (x y k : ℕ) → x < 2 ^ 128 → (0 < k → P) → 2 ^ 128 ≤ x * 10 ^ k / y → P
last_of P x y zero small last far = absurd (omega (arith, div-le_self (x * 1) y))
last_of P x y (suc k) small last far = last (omega arith)

pub inexact_few : (b : Bool) (m n : ℕ) → 0 < m → m < n → exact_quotient b m n ≡ None
inexact_few b m n some few = inexact_by b m n (λ e. omega (arith, mod-eq_of_lt few))

pub exact_none : (b : Bool) (m n : ℕ) → 0 < n → m ≡ 0 → exact_quotient b m n ≡ Some (record { mantissa = with_sign b 0; scale = 18 })
exact_none b m n some e = exact_by b m n 0 some (e ∙ sym (zero-mul n))

-- the zeros that both have are no matter
pub exact_up : (b : Bool) (x y up down : ℕ) → 0 < y → down ≤ up → exact_quotient b (x * 10 ^ (up - down)) y ≡ exact_quotient b (x * 10 ^ up) (y * 10 ^ down)
exact_up b x y up down some le =
    sym (exact_cancel b (x * 10 ^ (up - down)) y (10 ^ down) some (pow_some down))
    ∙ ap (λ n. exact_quotient b n (y * 10 ^ down)) (mul_assoc x (10 ^ (up - down)) (10 ^ down) ∙ ap (λ p. x * p) (sym (pow_split down up le)))

pub exact_down : (b : Bool) (x y up down : ℕ) → 0 < y → up ≤ down → exact_quotient b x (y * 10 ^ (down - up)) ≡ exact_quotient b (x * 10 ^ up) (y * 10 ^ down)
exact_down b x y up down some le =
    sym (exact_cancel b x (y * 10 ^ (down - up)) (10 ^ up) (some_product y (10 ^ (down - up)) some (pow_some (down - up))) (pow_some up))
    ∙ ap (λ n. exact_quotient b (x * 10 ^ up) n) (mul_assoc y (10 ^ (down - up)) (10 ^ up) ∙ ap (λ p. y * p) (sym (pow_split up down le)))

pub division_of-parts : (a b : DecimalNumber) (p q : Bool) (x y s t : ℕ) → p ≡ int_lt a.mantissa (pos 0) → q ≡ int_lt b.mantissa (pos 0)
    → x ≡ unsigned_abs a.mantissa → y ≡ unsigned_abs b.mantissa → s ≡ b.scale → t ≡ a.scale → y ≢ 0
    → quotient_answer (exact_quotient (not (beq p q)) (x * 10 ^ (s + 18)) (y * 10 ^ t)) ≡ division_of a b
division_of-parts a b p q x y s t e1 e2 e3 e4 e5 e6 some =
    let other : unsigned_abs b.mantissa ≢ 0 = λ h. some (e4 ∙ h) in
    ap (λ v. quotient_answer (exact_quotient v (x * 10 ^ (s + 18)) (y * 10 ^ t))) (ap (λ v. not (beq v q)) e1 ∙ ap (λ v. not (beq (int_lt a.mantissa (pos 0)) v)) e2)
    ∙ ap (λ v. quotient_answer (exact_quotient (not (beq (int_lt a.mantissa (pos 0)) (int_lt b.mantissa (pos 0)))) (v * 10 ^ (s + 18)) (y * 10 ^ t))) e3
    ∙ ap (λ v. quotient_answer (exact_quotient (not (beq (int_lt a.mantissa (pos 0)) (int_lt b.mantissa (pos 0)))) (unsigned_abs a.mantissa * 10 ^ (v + 18)) (y * 10 ^ t))) e5
    ∙ ap (λ v. quotient_answer (exact_quotient (not (beq (int_lt a.mantissa (pos 0)) (int_lt b.mantissa (pos 0)))) (unsigned_abs a.mantissa * 10 ^ (b.scale + 18)) (v * 10 ^ t))) e4
    ∙ ap (λ v. quotient_answer (exact_quotient (not (beq (int_lt a.mantissa (pos 0)) (int_lt b.mantissa (pos 0)))) (unsigned_abs a.mantissa * 10 ^ (b.scale + 18)) (unsigned_abs b.mantissa * 10 ^ v))) e6
    ∙ sym (ap (λ v. if v then Err Zero else quotient_answer (quotient_of a b)) (ne_eqb _ _ other))
