-- Digits of a number in a base.
use Rattle.std.proofs.Common.{◌≡◌, ℕ, zero, suc, ◌+◌, ◌-◌, ◌*◌, ◌/◌, ◌%◌, ◌^◌, ◌<◌, ◌≤◌, List, [], ◌∷◌, ◌++◌, map, length, inl, inr, refl, ap, sym, ◌∙◌, add-one, arith}
use Rattle.std.proofs.lemmas.Bool.{cases_lt, lt-ltb, le-ltb}
use Rattle.std.proofs.lemmas.List.{length-map}
use Rattle.std.proofs.lemmas.Nat.{pow-add}
use Rattle.std.proofs.Math.Nat.{pow-le-pow_left, pow-le-pow_right, pow-zero, pow-suc, div-one, div-div-eq-div-mul, add-mul-div_right, add-mul-mod_self_right, le-div_iff_mul-le}
use Rattle.dfdl_number_text.specs.Digits.{digits_at, digit_count, digit_character}
use Rattle.dfdl_number_text.specs.Written.{HasDigits}
use Rattle.dfdl_number_text.proofs.RoundingLemmas.{power_some}

pub power_more : (base k : ℕ) → base ^ (k + 1) ≡ base ^ k * base
power_more base k = ap (λ (e : ℕ). base ^ e) (add-one k) ∙ pow-suc base k

pub next_quotient : (base n k : ℕ) → n / base ^ k / base ≡ n / base ^ (k + 1)
next_quotient base n k = rw (power_more base k) (div-div-eq-div-mul n (base ^ k) base)

-- a number is at least the power of the base at which its quotient isn't zero
pub quotient_some : (base n k : ℕ) → 1 < base → 0 < n / base ^ k → base ^ k ≤ n
quotient_some base n k above some =
    omega (arith, (le-div_iff_mul-le {x = 1} {y = n} (power_some base k (omega arith))).0 some)

pub quotient_none : (base n k : ℕ) → 1 < base → n / base ^ k ≡ 0 → n < base ^ k
quotient_none base n k above none = elim (cases_lt n (base ^ k)) [
  | inl less ↦ less
  | inr more ↦
      let one : 1 * base ^ k ≤ n = omega (arith, more) in
      absurd (omega (arith, (le-div_iff_mul-le {x = 1} {y = n} (power_some base k (omega arith))).1 one))
]

-- a number of 128 bits has at most 128 digits
pub digits_within : (base n k : ℕ) → 1 < base → n < 2 ^ 128 → base ^ k ≤ n → k < 128
digits_within base n k above small least = elim (cases_lt k 128) [
  | inl few ↦ few
  | inr many ↦
      let two : 2 ^ k ≤ base ^ k = pow-le-pow_left (omega arith) k in
      let large : 2 ^ 128 ≤ 2 ^ k = pow-le-pow_right {n = 2} (omega arith) many in
      absurd (omega arith)
]

pub digits_few : (base n count most : ℕ) → 1 < base → HasDigits base n count → n < base ^ most → count ≤ most
digits_few base n count most above has small = elim (cases_lt most count) [
  | inl over ↦
      let less : most ≤ count - 1 = omega arith in
      let front : base ^ most ≤ base ^ (count - 1) = pow-le-pow_right {n = base} (omega arith) less in
      absurd (omega (arith, has.above (omega arith)))
  | inr fits ↦ fits
]

pub digit_count_is : (base most n count : ℕ) → 1 < base → HasDigits base n count → count ≤ most → digit_count base most n ≡ count
unfolding digit_count
digit_count_is base zero n count above has few = omega arith
digit_count_is base (suc most) n count above has few = elim (cases_lt n (base ^ most)) [
  | inl low ↦ rw (lt-ltb n (base ^ most) low) (digit_count_is base most n count above has (digits_few base n count most above has low))
  | inr high ↦
      let full : count ≡ suc most = elim (cases_lt most count) [
        | inl over ↦ omega arith
        | inr fits ↦
            let room : base ^ count ≤ base ^ most = pow-le-pow_right {n = base} (omega arith) fits in
            absurd (omega (arith, has.below))
      ] in
      rw (le-ltb n (base ^ most) high) (sym full)
]

-- ---- digits
pub length-digits_at : (base len n : ℕ) → length (digits_at base len n) ≡ len
unfolding digits_at
length-digits_at base zero n = refl
length-digits_at base (suc len) n = ap suc (length-digits_at base len n)

pub digits_none : (base n : ℕ) → digits_at base 0 n ≡ []
unfolding digits_at
digits_none base n = refl

pub digits_more : (base len n : ℕ) → digits_at base (len + 1) n ≡ n / base ^ len % base ∷ digits_at base len n
unfolding digits_at
digits_more base len n = ap (λ (k : ℕ). digits_at base k n) (add-one len)

pub length-characters : (base len n : ℕ) → length (map digit_character (digits_at base len n)) ≡ len
length-characters base len n = length-map (digits_at base len n) digit_character ∙ length-digits_at base len n

-- the digits of a number are those of its quotient and the last one
pub digits_last : (base len n : ℕ) → digits_at base (suc len) n ≡ digits_at base len (n / base) ++ n % base ∷ []
unfolding digits_at
digits_last base zero n = ap (λ (k : ℕ). k % base ∷ []) (ap (λ (p : ℕ). n / p) (pow-zero base) ∙ div-one n)
digits_last base (suc len) n =
    let front : n / base ^ suc len ≡ n / base / base ^ len = ap (λ (p : ℕ). n / p) (first_power base len) ∙ sym (div-div-eq-div-mul n base (base ^ len)) in
    rw front (ap (λ (ds : List ℕ). n / base / base ^ len % base ∷ ds) (digits_last base len n))
  where
    first_power : (base len : ℕ) → base ^ suc len ≡ base * base ^ len
    first_power base len = ap (λ (k : ℕ). base ^ k) (sym (add-one len)) ∙ power_more base len ∙ omega (arith)

-- what stands in front of the last digits does not change them
pub digits_behind : (base len places h n : ℕ) → 0 < base → len ≤ places → digits_at base len (h * base ^ places + n) ≡ digits_at base len n
unfolding digits_at
digits_behind base zero places h n some few = refl
digits_behind base (suc len) places h n some few =
    let m : ℕ = h * base ^ (places - len - 1) in
    let all : h * base ^ places + n ≡ n + m * base * base ^ len = whole_front base h n len (places - len - 1) places (omega arith) in
    let digit : (h * base ^ places + n) / base ^ len % base ≡ n / base ^ len % base =
    ap (λ (k : ℕ). k / base ^ len % base) all
    ∙ ap (λ (k : ℕ). k % base) (add-mul-div_right n (m * base) (power_some base len some))
    ∙ add-mul-mod_self_right (n / base ^ len) m base in
    rw digit (ap (λ (ds : List ℕ). n / base ^ len % base ∷ ds) (digits_behind base len places h n some (omega arith)))
  where
    whole_front : (base h n len k places : ℕ) → places ≡ len + (k + 1) → h * base ^ places + n ≡ n + h * base ^ k * base * base ^ len
    whole_front base h n len k places all =
        let power : base ^ places ≡ base ^ len * (base ^ k * base) = ap (λ (e : ℕ). base ^ e) all ∙ pow-add base len (k + 1) ∙ ap (λ (p : ℕ). base ^ len * p) (power_more base k) in
        rw power (omega (arith))

-- how many digits a number has is at most what was asked
pub digit_count_few : (base most n : ℕ) → digit_count base most n ≤ most
unfolding digit_count
digit_count_few base zero n = omega arith
digit_count_few base (suc most) n = elim (cases_lt n (base ^ most)) [
  | inl low ↦ rw (lt-ltb n (base ^ most) low) (omega (arith, digit_count_few base most n))
  | inr high ↦ rw (le-ltb n (base ^ most) high) (omega arith)
]

-- a number of 128 bits in a base
pub small_number : (base n : ℕ) → 1 < base → n < 2 ^ 128 → n < base ^ 128
small_number base n above small =
    let most : 2 ^ 128 ≤ base ^ 128 = pow-le-pow_left {n = 2} {m = base} above 128 in
    omega arith
