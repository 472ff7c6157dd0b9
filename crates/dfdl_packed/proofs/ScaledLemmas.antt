-- Numbers with zeros behind them, and how many digits numbers have.
use Rattle.std.proofs.Common.{◌≡◌, ◌≢◌, ℕ, zero, suc, ◌+◌, ◌-◌, ◌*◌, ◌/◌, ◌^◌, ◌<◌, ◌≤◌, ℤ, pos, negsuc, neg_ℤ, ◌*ℤ◌, true, nat_lt, nat_eq, inl, inr, refl, ap, sym, ◌∙◌, zero-mul, arith}
use Rattle.std.proofs.lemmas.Bool.{cases_lt, cases_eq, eq-eqb, ne_eqb, lt-ltb, le-ltb}
use Rattle.std.proofs.lemmas.Nat.{pow-add}
use Rattle.std.proofs.Math.Nat.{mul-le-mul_right, mul-lt-mul_of_pos_right, pow-le-pow_right, div-lt_iff_lt-mul, div-div-eq-div-mul, div-eq_of_lt, le-div_iff_mul-le}
use Rattle.dfdl_packed.specs.Packed.{is_negative}
use Rattle.dfdl_packed.specs.Digits.{digit_count}
use Rattle.dfdl_packed.specs.Written.{HasDigits}
use Rattle.dfdl_packed.proofs.Powers.{one_more, self_le, ten_pos}

pub zero_product : (n k : ℕ) → nat_eq n 0 ≡ nat_eq (n * 10 ^ k) 0
zero_product n k = elim (cases_eq n 0) [
  | inl none ↦
      let zero : n * 10 ^ k ≡ 0 = ap (λ (m : ℕ). m * 10 ^ k) none ∙ zero-mul (10 ^ k) in
      eq-eqb n 0 none ∙ sym (eq-eqb (n * 10 ^ k) 0 zero)
  | inr some ↦
      ne_eqb n 0 some ∙ sym (ne_eqb _ _ (λ zero. some (omega (arith, self_le n k))))
]

-- the last of the zeros
pub last_zero : (n k : ℕ) → 0 < k → n * 10 ^ k ≡ n * 10 ^ (k - 1) * 10
last_zero n k some =
    let cut : k ≡ k - 1 + 1 = omega arith in
    ap (λ (e : ℕ). n * 10 ^ e) cut ∙ one_more n (k - 1)

pub negative_product : (z : ℤ) (k : ℕ) → is_negative (z *ℤ pos (10 ^ k)) ≡ is_negative z
negative_product (pos n) k = refl
negative_product (negsuc n) k = by_size (suc n * 10 ^ k) (omega (arith, self_le (suc n) k))
  where
    by_size : (m : ℕ) → 1 ≤ m → is_negative (neg_ℤ (pos m)) ≡ true
    by_size zero some = absurd (omega arith)
    by_size (suc m) some = refl

-- ---- digits
pub power_more : (k : ℕ) → 10 ^ (k + 1) ≡ 10 ^ k * 10
power_more k = pow-add 10 k 1

pub digits_below : (n k : ℕ) → n / 10 ^ k < 10 → n < 10 ^ (k + 1)
digits_below n k small = rw (power_more k) (omega (arith, (div-lt_iff_lt-mul {x = n} {y = 10} (ten_pos k)).0 small))

pub digits_above : (n k : ℕ) → 10 ≤ n / 10 ^ k → 10 ^ (k + 1) ≤ n
digits_above n k large = rw (power_more k) (omega (arith, (le-div_iff_mul-le {x = 10} {y = n} (ten_pos k)).0 large))

pub next_quotient : (n k : ℕ) → n / 10 ^ k / 10 ≡ n / 10 ^ (k + 1)
next_quotient n k = rw (power_more k) (div-div-eq-div-mul n (10 ^ k) 10)

-- zeros behind a number that isn't zero add to its digits
pub digits_zeros : (n len k : ℕ) → n ≢ 0 → HasDigits n len → HasDigits (n * 10 ^ k) (len + k)
digits_zeros n len k some has =
    let cut : len + k - 1 ≡ len - 1 + k = omega (arith, has.some) in
    let front : 10 ^ (len - 1) ≤ n = elim (cases_lt 1 len) [
      | inl more ↦ has.above more
      | inr one ↦ let none : len - 1 ≡ 0 = omega arith in rw none (omega arith)
    ] in
    record {
      some = omega (arith, has.some);
      below = rw (pow-add 10 len k) (mul-lt-mul_of_pos_right has.below (ten_pos k));
      above = λ more. rw (cut, pow-add 10 (len - 1) k) (mul-le-mul_right (10 ^ k) front);
    }

-- nothing is left of a number that has no more digits than are taken off
pub none_left : (n k : ℕ) → nat_eq (n / 10 ^ k) 0 ≡ nat_lt n (10 ^ k)
none_left n k = elim (cases_lt n (10 ^ k)) [
  | inl low ↦ eq-eqb _ _ (div-eq_of_lt low) ∙ sym (lt-ltb _ _ low)
  | inr high ↦
      let some : 1 ≤ n / 10 ^ k = (le-div_iff_mul-le {x = 1} {y = n} (ten_pos k)).1 (omega arith) in
      ne_eqb _ _ (λ zero. omega arith) ∙ sym (le-ltb _ _ high)
]

pub digit_count_is : (most n len : ℕ) → HasDigits n len → len ≤ most + 1 → digit_count most n ≡ len
unfolding digit_count
digit_count_is zero n len has few = omega (arith, has.some)
digit_count_is (suc most) n len has few = elim (cases_lt n (10 ^ suc most)) [
  | inl low ↦
      let less : len ≤ most + 1 = elim (cases_lt (most + 1) len) [
        | inl over ↦
            let all : len - 1 ≡ suc most = omega arith in
            absurd (omega (arith, (let front : 10 ^ suc most ≤ n = rw all at (has.above (omega arith)) in front)))
        | inr fits ↦ fits
      ] in
      rw (lt-ltb n (10 ^ suc most) low) (digit_count_is most n len has less)
  | inr high ↦
      let full : len ≡ suc (suc most) = elim (cases_lt (most + 1) len) [
        | inl over ↦ omega arith
        | inr fits ↦
            let room : 10 ^ len ≤ 10 ^ suc most = pow-le-pow_right (omega arith) (omega arith) in
            absurd (omega (arith, has.below))
      ] in
      rw (le-ltb n (10 ^ suc most) high) (sym full)
]

-- a number of 128 bits has at most 39 digits before its zeros
pub small_product : (n k : ℕ) → n < 2 ^ 128 → n * 10 ^ k < 10 ^ (39 + k)
small_product n k fits =
    let few : n < 10 ^ 39 = omega arith in
    rw (pow-add 10 39 k) (mul-lt-mul_of_pos_right few (ten_pos k))

-- a number below 10 ^ 80 has at most 80 digits
pub digits_few : (n len most : ℕ) → HasDigits n len → n < 10 ^ most → 1 ≤ most → len ≤ most
digits_few n len most has small some = elim (cases_lt most len) [
  | inl over ↦
      let room : most ≤ len - 1 = omega arith in
      let front : 10 ^ most ≤ 10 ^ (len - 1) = pow-le-pow_right {n = 10} (omega arith) room in
      absurd (omega (arith, has.above (omega arith)))
  | inr fits ↦ fits
]
