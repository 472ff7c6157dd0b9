-- Numbers that are read digit by digit, and stand still at a greatest one.
use Rattle.std.proofs.Common.{◌≡◌, ℕ, suc, ◌+◌, ◌-◌, ◌*◌, ◌^◌, ◌<◌, ◌≤◌, List, ◌∷◌, length, min, ap, sym, ◌∙◌, arith, inl, inr, drop, drop-cons, get_or}
use Rattle.std.proofs.lemmas.List.{drop_all}
use Rattle.std.proofs.lemmas.Bool.{cases_lt}
use Rattle.std.proofs.Math.Nat.{pow-suc, one-le-pow, mul-le-mul_right}
use Rattle.dfdl_constructs.specs.Values.{number}

-- what stands still already is as good as what it stands for
stood : (m p n q r : ℕ) → 1 ≤ p → n ≡ min q m → min (n * p + r) m ≡ min (q * p + r) m
stood m p n q r some is = elim (cases_lt m q) [
  | inl more ↦
      let here : n ≡ m = omega (arith, is, more) in
      let first : m * 1 ≤ n * p = at_least n (omega (arith, here)) in
      let second : m * 1 ≤ q * p = at_least q (omega (arith, more)) in
      omega (arith, first, second)
  | inr few ↦
      let here : n ≡ q = omega (arith, is, few) in
      ap (λ (k : ℕ). min (k * p + r) m) here
]
  where
    at_least : (k : ℕ) → m ≤ k → m * 1 ≤ k * p
    at_least k big =
        let low : m * p ≤ k * p = mul-le-mul_right p big in
        let high : 1 * m ≤ p * m = mul-le-mul_right m some in
        omega (arith, low, high)

-- one digit more
digit_step : (m n new b : ℕ) (text rest : List ℕ) (whole : ℕ) → text ≡ b ∷ rest → new ≡ min (min (n * 10) m + (b - 48)) m
    → min (n * 10 ^ length text + number text) m ≡ whole → min (new * 10 ^ length rest + number rest) m ≡ whole
digit_step m n new b text rest whole is made before =
    let power : 10 ^ suc (length rest) ≡ 10 ^ length rest * 10 = pow-suc 10 (length rest) in
    let shift : (n * 10 + (b - 48)) * 10 ^ length rest + number rest ≡ n * (10 ^ length rest * 10) + ((b - 48) * 10 ^ length rest + number rest) = omega arith in
    stood m (10 ^ length rest) new (n * 10 + (b - 48)) (number rest) (one-le-pow (length rest) 10 (omega arith)) (omega (arith, made))
    ∙ (ap (λ (k : ℕ). min k m) shift
    ∙ (ap (λ (k : ℕ). min (n * k + number (b ∷ rest)) m) (sym power)
    ∙ (ap (λ (t : List ℕ). min (n * 10 ^ length t + number t) m) (sym is) ∙ before)))

-- the same at a place of a text
pub digit_more : (m n new i : ℕ) (text : List ℕ) (whole : ℕ) → i < length text → new ≡ min (min (n * 10) m + (get_or text i 0 - 48)) m
    → min (n * 10 ^ length (drop i text) + number (drop i text)) m ≡ whole → min (new * 10 ^ length (drop (i + 1) text) + number (drop (i + 1) text)) m ≡ whole
digit_more m n new i text whole less made before =
    let next : suc i ≡ i + 1 = omega arith in
    digit_step m n new (get_or text i 0) (drop i text) (drop (i + 1) text) whole
    (drop-cons text i 0 less ∙ ap (λ (k : ℕ). get_or text i 0 ∷ drop k text) next) made before

-- no digit more
pub digits_end : (m n i : ℕ) (text : List ℕ) (whole : ℕ) → length text ≤ i → n ≤ m → min (n * 10 ^ length (drop i text) + number (drop i text)) m ≡ whole → n ≡ whole
digits_end m n i text whole past few before =
    let nothing : min (n * 10 ^ length (drop i text) + number (drop i text)) m ≡ min (n * 1 + 0) m =
    ap (λ (t : List ℕ). min (n * 10 ^ length t + number t) m) (drop_all i text past) in
    omega (arith, few, before, nothing)
