-- Integers times a power of ten.
use Rattle.std.proofs.Common.{◌≡◌, ℕ, zero, suc, ◌+◌, ◌-◌, ◌*◌, ◌^◌, ◌≤◌, ℤ, pos, negsuc, neg_ℤ, ◌*ℤ◌, None, FitsSigned, inl, inr, refl, ap, ◌∙◌, zero-mul, mul_assoc, sym, arith}
use Rattle.std.specs.Int.{w128}
use Rattle.std.proofs.lemmas.Bool.{cases_lt}
use Rattle.std.proofs.lemmas.Nat.{pow-add}
use Rattle.std.proofs.lemmas.Bool.Decides.{nat_tests}
use Rattle.std.proofs.Math.Nat.{mul-le-mul_left, pow-le-pow_right}
use Rattle.dfdl_int_binary.specs.Signed.{pattern_of}
use Rattle.dfdl_int_binary.proofs.Powers.{half_small}

-- what 128 bits can't hold, no fewer bits can
pub pattern_none : (bits : ℕ) (z : ℤ) → bits ≤ 128 → (FitsSigned w128 z → ⊥) → None ≡ pattern_of bits z
pattern_none bits (pos n) few large = elim (cases_lt n (2 ^ (bits - 1))) [
  | inl low ↦ absurd (large (record { sfits = omega (arith, half_small bits few) }))
  | inr high ↦ grind (arith, nat_tests)
]
pattern_none bits (negsuc n) few large = elim (cases_lt n (2 ^ (bits - 1))) [
  | inl low ↦ absurd (large (record { sfits = omega (arith, half_small bits few) }))
  | inr high ↦ grind (arith, nat_tests)
]

-- a negative number's size
neg_fits : (m n : ℕ) → m ≤ n → FitsSigned w128 (neg_ℤ (pos n)) → FitsSigned w128 (neg_ℤ (pos m))
neg_fits zero n less fits = record { sfits = omega arith }
neg_fits (suc m) zero less fits = absurd (omega arith)
neg_fits (suc m) (suc n) less fits = record { sfits = omega (arith, fits.sfits) }

-- what holds with more zeros holds with fewer
pub zeros_fit : (z : ℤ) (j k : ℕ) → j ≤ k → FitsSigned w128 (z *ℤ pos (10 ^ k)) → FitsSigned w128 (z *ℤ pos (10 ^ j))
zeros_fit (pos n) j k less fits =
    let more : n * 10 ^ j ≤ n * 10 ^ k = mul-le-mul_left n (pow-le-pow_right (omega arith) less) in
    record { sfits = omega (arith, fits.sfits) }
zeros_fit (negsuc n) j k less fits =
    neg_fits (suc n * 10 ^ j) (suc n * 10 ^ k) (mul-le-mul_left (suc n) (pow-le-pow_right (omega arith) less)) fits

pub neg-times : (a b : ℕ) → neg_ℤ (pos a) *ℤ pos b ≡ neg_ℤ (pos (a * b))
neg-times zero b = rw zero-mul refl
neg-times (suc a) b = refl

-- one zero more
pub zeros_more : (z : ℤ) (k : ℕ) → (z *ℤ pos (10 ^ k)) *ℤ pos 10 ≡ z *ℤ pos (10 ^ (k + 1))
zeros_more (pos n) k =
    let power : 10 ^ (k + 1) ≡ 10 ^ k * 10 ^ 1 = pow-add 10 k 1 in
    ap pos (mul_assoc n (10 ^ k) 10 ∙ ap (λ (m : ℕ). n * m) (sym power))
zeros_more (negsuc n) k =
    let power : 10 ^ (k + 1) ≡ 10 ^ k * 10 ^ 1 = pow-add 10 k 1 in
    neg-times (suc n * 10 ^ k) 10 ∙ ap (λ (m : ℕ). neg_ℤ (pos m)) (mul_assoc (suc n) (10 ^ k) 10 ∙ ap (λ (m : ℕ). suc n * m) (sym power))
