-- Powers of two that 128 bits hold.
use Rattle.std.proofs.Common.{◌≡◌, ℕ, ◌+◌, ◌-◌, ◌*◌, ◌%◌, ◌^◌, ◌≤◌, ap, ◌∙◌, pow_mono, arith}
use Rattle.std.proofs.lemmas.Nat.{one_shl, pow-add}

-- `1 << (bits - 1)`
pub half_is : (bits : ℕ) → 1 ≤ bits → bits ≤ 128 → 1 * 2 ^ (bits - 1) % 2 ^ 128 ≡ 2 ^ (bits - 1)
half_is bits some few = one_shl (bits - 1) 128 (omega arith)

-- which is at most half of 2 ^ 128
pub half_small : (bits : ℕ) → bits ≤ 128 → 2 ^ (bits - 1) ≤ 2 ^ 127
half_small bits few = let less : bits - 1 ≤ 127 = omega arith in pow_mono less

-- two halves are a whole
pub halves : (bits : ℕ) → 1 ≤ bits → 2 ^ bits ≡ 2 ^ (bits - 1) + 2 ^ (bits - 1)
halves bits some =
    let cut : bits ≡ bits - 1 + 1 = omega arith in
    ap (λ (e : ℕ). 2 ^ e) cut ∙ (pow-add 2 (bits - 1) 1 ∙ omega arith)
