-- Powers of ten.
use Rattle.std.proofs.Common.{◌≡◌, ℕ, ◌+◌, ◌*◌, ◌^◌, ◌≤◌, ap, sym, ◌∙◌, mul_assoc, arith}
use Rattle.std.proofs.lemmas.Nat.{pow-add}
use Rattle.std.proofs.Math.Nat.{mul-le-mul_left, pow-le-pow_right}

-- one zero more
pub one_more : (n k : ℕ) → n * 10 ^ (k + 1) ≡ n * 10 ^ k * 10
one_more n k =
    let power : 10 ^ (k + 1) ≡ 10 ^ k * 10 ^ 1 = pow-add 10 k 1 in
    ap (λ (p : ℕ). n * p) power ∙ sym (mul_assoc n (10 ^ k) 10)

-- more zeros make no less
pub zeros_le : (n j k : ℕ) → j ≤ k → n * 10 ^ j ≤ n * 10 ^ k
zeros_le n j k less = mul-le-mul_left n (pow-le-pow_right (omega arith) less)

pub self_le : (n k : ℕ) → n ≤ n * 10 ^ k
self_le n k = omega (arith, zeros_le n 0 k (omega arith))

pub ten_pos : (k : ℕ) → 1 ≤ 10 ^ k
ten_pos k = omega (arith, zeros_le 1 0 k (omega arith))
