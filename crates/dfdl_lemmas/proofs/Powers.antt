-- Powers of two and of what a byte can be.
use Rattle.std.proofs.Common.{◌≡◌, ℕ, zero, suc, ◌+◌, ◌*◌, ◌^◌, refl, arith, add-one}
use Rattle.std.proofs.lemmas.Nat.{pow-add}

-- each byte has eight bits
pub eight_bits : (count : ℕ) → 2 ^ (8 * count) ≡ 256 ^ count
eight_bits zero = refl
eight_bits (suc count) =
    let more : 8 * suc count ≡ 8 + 8 * count = omega arith in
    let parts : 2 ^ (8 + 8 * count) ≡ 2 ^ 8 * 2 ^ (8 * count) = pow-add 2 8 (8 * count) in
    let whole : 256 ^ (count + 1) ≡ 256 ^ count * 256 ^ 1 = pow-add 256 count 1 in
    rw (more, parts, eight_bits count, ← add-one count, whole) (omega arith)
