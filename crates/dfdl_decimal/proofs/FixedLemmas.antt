-- Lemmas on the shortest form of a decimal number.
use Rattle.std.proofs.Common.{◌≡◌, ◌≢◌, ℕ, zero, suc, ◌+◌, ◌-◌, ◌*◌, ◌/◌, ◌%◌, ◌^◌, ◌<◌, Bool, true, false, ◌&&◌, nat_lt, if◌then◌else◌, refl, sym, ap, ◌∙◌, arith, ℤ, pos, int_div, unsigned_abs, Some, None}
use Rattle.std.proofs.lemmas.Bool.{eq-eqb, ne_eqb, lt-ltb}
use Rattle.std.proofs.Math.Nat.{pow-suc, mul_assoc}
use Rattle.dfdl_decimal.specs.Decimal.{DecimalNumber, IsFixed, shortest_from, is_small, fixed_of, with_sign}

pub unsigned_abs-with_sign : (negative : Bool) (n : ℕ) → unsigned_abs (with_sign negative n) ≡ n
unsigned_abs-with_sign true zero = refl
unsigned_abs-with_sign true (suc n) = refl
unsigned_abs-with_sign false n = refl

pub int_div-with_sign : (b : Bool) (n : ℕ) → int_div (with_sign b n) (pos 10) ≡ with_sign b (n / 10)
int_div-with_sign true zero = refl
int_div-with_sign true (suc n) = refl
int_div-with_sign false n = refl

-- a zero at the end is dropped
pub shortest_from-zero : (s : ℕ) (b : Bool) (n : ℕ) → shortest_from (suc s) (with_sign b (n * 10)) ≡ shortest_from s (with_sign b n)
shortest_from-zero s b n =
    let even : unsigned_abs (with_sign b (n * 10)) % 10 ≡ 0 = rw unsigned_abs-with_sign (omega arith) in
    let less : n * 10 / 10 ≡ n = omega arith in
    ap (λ t. if t then shortest_from s (int_div (with_sign b (n * 10)) (pos 10)) else record { mantissa = with_sign b (n * 10); scale = suc s }) (eq-eqb _ _ even)
    ∙ ap (shortest_from s) (int_div-with_sign b (n * 10) ∙ ap (with_sign b) less)

pub shortest_from-divides : (s : ℕ) (b : Bool) (n : ℕ) → 0 < s → n % 10 ≡ 0 → shortest_from (s - 1) (with_sign b (n / 10)) ≡ shortest_from s (with_sign b n)
shortest_from-divides s b n some even =
    let longer : suc (s - 1) ≡ s = omega arith in
    let larger : n / 10 * 10 ≡ n = omega arith in
    sym (shortest_from-zero (s - 1) b (n / 10)) ∙ ap (λ k. shortest_from k (with_sign b (n / 10 * 10))) longer ∙ ap (λ k. shortest_from s (with_sign b k)) larger

-- zeros behind a number are dropped with as many digits after the point
pub shortest_from-shift : (j s : ℕ) (b : Bool) (n : ℕ) → shortest_from (s + j) (with_sign b (n * 10 ^ j)) ≡ shortest_from s (with_sign b n)
shortest_from-shift zero s b n =
    let scale : s + 0 ≡ s = omega arith in
    let one : n * 1 ≡ n = omega arith in
    ap (λ k. shortest_from k (with_sign b (n * 1))) scale ∙ ap (λ k. shortest_from s (with_sign b k)) one
shortest_from-shift (suc j) s b n =
    let scale : s + suc j ≡ suc (s + j) = omega arith in
    let more : n * 10 ^ suc j ≡ n * 10 ^ j * 10 = ap (λ p. n * p) (pow-suc 10 j) ∙ sym (mul_assoc n (10 ^ j) 10) in
    ap (λ k. shortest_from k (with_sign b (n * 10 ^ suc j))) scale
    ∙ ap (λ k. shortest_from (suc (s + j)) (with_sign b k)) more
    ∙ shortest_from-zero (s + j) b (n * 10 ^ j)
    ∙ shortest_from-shift j s b n

-- another digit stays
pub shortest_from-stops : (s : ℕ) (z : ℤ) → unsigned_abs z % 10 ≢ 0 → shortest_from (suc s) z ≡ record { mantissa = z; scale = suc s }
shortest_from-stops s z other =
    ap (λ t. if t then shortest_from s (int_div z (pos 10)) else record { mantissa = z; scale = suc s }) (ne_eqb _ _ other)

-- zero has no digit after the point
pub shortest_from-none : (b : Bool) (s : ℕ) → shortest_from s (with_sign b 0) ≡ record { mantissa = with_sign b 0; scale = 0 }
shortest_from-none b zero = refl
shortest_from-none true (suc s) = shortest_from-none true s
shortest_from-none false (suc s) = shortest_from-none false s

pub not_round : (n d : ℕ) → 0 < d → d < 10 → (n * 10 + d) % 10 ≢ 0
not_round n d some less = λ e. omega arith

pub shortest_from-fixed : (z : ℤ) (scale : ℕ) → (0 < scale → unsigned_abs z % 10 ≢ 0) → shortest_from scale z ≡ record { mantissa = z; scale = scale }
shortest_from-fixed z zero last = refl
shortest_from-fixed z (suc scale) last = shortest_from-stops scale z (last (omega arith))

pub is_small-fixed : (d : DecimalNumber) → IsFixed d → is_small d ≡ true
is_small-fixed d fixed = ap (λ b. b && nat_lt d.scale 256) (lt-ltb _ _ fixed.digits) ∙ lt-ltb _ _ fixed.places

pub fixed_of-fixed : (d : DecimalNumber) → IsFixed d → fixed_of d ≡ Some d
fixed_of-fixed d fixed =
    let small : is_small d ≡ true = ap (λ b. b && nat_lt d.scale 256) (lt-ltb _ _ fixed.digits) ∙ lt-ltb _ _ fixed.places in
    ap (λ e. if is_small e then Some e else None) (shortest_from-fixed d.mantissa d.scale fixed.shortest)
    ∙ ap (λ b. if b then Some d else None) small
