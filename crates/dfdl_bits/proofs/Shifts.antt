-- Shifts and masks that lose no bit.
use Rattle.std.proofs.Common.{◌≡◌, ℕ, ◌+◌, ◌-◌, ◌*◌, ◌%◌, ◌^◌, ◌<◌, ◌≤◌, bit_and, bit_or, ◌∙◌, arith}
use Rattle.std.proofs.lemmas.Nat.{and_mask, one_shl, or_comm, or_shifted, shl_whole}

-- `n & ((1 << len) - 1)`, at w bits
pub and_low : (w n len : ℕ) → len < w → bit_and n (1 * 2 ^ len % 2 ^ w - 1) ≡ n % 2 ^ len
and_low w n len few = rw (one_shl len w few) (and_mask n len)

-- `a << k | b`, at w bits
pub shl_or : (w a j k b : ℕ) → a < 2 ^ j → j + k ≤ w → b < 2 ^ k → bit_or (a * 2 ^ k % 2 ^ w) b ≡ a * 2 ^ k + b
shl_or w a j k b high fits low = rw (shl_whole a j k w high fits) (or_shifted a k b low)

-- `a | b << k`, at w bits
pub or_shl_at : (w a b j k : ℕ) → a < 2 ^ k → b < 2 ^ j → j + k ≤ w → bit_or a (b * 2 ^ k % 2 ^ w) ≡ a + b * 2 ^ k
or_shl_at w a b j k low high fits = or_comm a (b * 2 ^ k % 2 ^ w) ∙ (shl_or w b j k a high fits low ∙ omega arith)

pub or_shl : (a b j k : ℕ) → a < 2 ^ k → b < 2 ^ j → j + k ≤ 128 → bit_or a (b * 2 ^ k % 2 ^ 128) ≡ a + b * 2 ^ k
or_shl = or_shl_at 128
