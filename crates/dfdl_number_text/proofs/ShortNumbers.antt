-- Numbers of so few digits that 64 bits hold them.
use Rattle.std.proofs.Common.{◌≡◌, ℕ, suc, ◌+◌, ◌-◌, ◌*◌, ◌^◌, ◌<◌, ◌≤◌, true, ap, sym, ◌∙◌, arith}
use Rattle.std.specs.Char.{is_ascii_digit}
use Rattle.std.proofs.lemmas.Bool.Decides.{nat_tests}
use Rattle.std.proofs.lemmas.Nat.{pow-add}
use Rattle.std.proofs.Math.Nat.{le_trans, mul_assoc, mul_comm, mul-le-mul_left, mul-le-mul_right, pow-le-pow_right, pow-suc}
use Rattle.dfdl_number_text.proofs.RoundingLemmas.{power_some}

pub digit_small : (c : ℕ) → is_ascii_digit c ≡ true → c - 48 ≤ 9
digit_small c digit = grind (arith, nat_tests)

-- the same digits, with room for as many more as before without one
pub room_for_digit : (n d most len i : ℕ) → i < len → d ≤ 9 → (n + 1) * 10 ^ (len - i) ≤ most → (n * 10 + d + 1) * 10 ^ (len - (i + 1)) ≤ most
room_for_digit n d most len i inside small room =
    let p : ℕ = 10 ^ (len - (i + 1)) in
    let here : len - i ≡ suc (len - (i + 1)) = omega arith in
    let power : 10 ^ (len - i) ≡ p * 10 = ap (λ (k : ℕ). 10 ^ k) here ∙ pow-suc 10 (len - (i + 1)) in
    let ten : n * 10 + 10 ≡ (n + 1) * 10 = omega arith in
    let same : (n * 10 + 10) * p ≡ (n + 1) * 10 ^ (len - i) =
    ap (λ (k : ℕ). k * p) ten ∙ mul_assoc (n + 1) 10 p ∙ ap (λ (k : ℕ). (n + 1) * k) (mul_comm 10 p ∙ sym power) in
    let less : (n * 10 + d + 1) * p ≤ (n * 10 + 10) * p = mul-le-mul_right p (omega (arith, small)) in
    omega (arith, less, same, room)

pub room_without : (n most len i : ℕ) → (n + 1) * 10 ^ (len - i) ≤ most → (n + 1) * 10 ^ (len - (i + 1)) ≤ most
room_without n most len i room =
    let power : 10 ^ (len - (i + 1)) ≤ 10 ^ (len - i) = pow-le-pow_right {n = 10} (omega arith) (let less : len - (i + 1) ≤ len - i = omega arith in less) in
    le_trans (mul-le-mul_left (n + 1) power) room

-- the number itself is no larger than its bound
pub room_alone : (n k most : ℕ) → (n + 1) * 10 ^ k ≤ most → n + 1 ≤ most
room_alone n k most room =
    let one : (n + 1) * 1 ≤ (n + 1) * 10 ^ k = mul-le-mul_left (n + 1) (power_some 10 k (omega arith)) in
    omega (arith, one, room)

pub digit_fits : (n d most len i : ℕ) → i < len → d ≤ 9 → (n + 1) * 10 ^ (len - i) ≤ most → most ≤ 10 ^ 18 → n * 10 + d + 1 ≤ 10 ^ 18
digit_fits n d most len i inside small room few =
    room_alone (n * 10 + d) (len - (i + 1)) (10 ^ 18) (le_trans (room_for_digit n d most len i inside small room) few)

-- so many digits more make a number so much larger
pub room_more : (n k m : ℕ) → n + 1 ≤ 1 * 10 ^ k → k + m ≤ 18 → (n + 1) * 10 ^ m ≤ 10 ^ 18
room_more n k m few all =
    let parts : 10 ^ (k + m) ≡ 10 ^ k * 10 ^ m = pow-add 10 k m in
    let whole : 10 ^ (k + m) ≤ 10 ^ 18 = pow-le-pow_right {n = 10} (omega arith) all in
    let less : (n + 1) * 10 ^ m ≤ 10 ^ k * 10 ^ m = mul-le-mul_right (10 ^ m) (omega (arith, few)) in
    omega (arith, parts, whole, less)
