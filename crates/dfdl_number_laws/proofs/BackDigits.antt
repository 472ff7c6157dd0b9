-- Digits are read as the number that they were made of.
use Rattle.std.proofs.Common.{◌≡◌, ℕ, zero, suc, ◌+◌, ◌-◌, ◌*◌, ◌/◌, ◌%◌, ◌^◌, ◌<◌, ◌≤◌, true, nat_lt, List, [], ◌∷◌, length, map, fold, max, inl, inr, refl, ap, sym, ◌∙◌, arith}
use Rattle.std.specs.Char.{is_ascii_digit, digit_value}
use Rattle.std.specs.List.{list_all}
use Rattle.std.proofs.lemmas.Bool.{lt-ltb, le-ltb, cases_lt, and_parts}
use Rattle.std.proofs.lemmas.Bool.Decides.{nat_tests}
use Rattle.std.proofs.lemmas.List.{length-map}
use Rattle.std.proofs.lemmas.Nat.{div-add-mod'}
use Rattle.std.proofs.Math.Nat.{mod-lt, pow-suc, pow-zero, div-div-eq-div-mul, div-eq_of_lt, div-one, le_trans, pow-le-pow_right}
use Rattle.dfdl_value.specs.Texts.{number_after, number_of}
use Rattle.dfdl_number_text.specs.Digits.{digits_at, digit_count, digit_character}

pub digits_below : (base len n : ℕ) → 0 < base → list_all (λ d. nat_lt d base) (digits_at base len n) ≡ true
unfolding digits_at
digits_below base zero n some = refl
digits_below base (suc len) n some =
    let low : nat_lt (n / base ^ len % base) base ≡ true = lt-ltb _ _ (mod-lt (n / base ^ len) some) in
    rw low (digits_below base len n some)

pub length-digits_at : (base len n : ℕ) → length (digits_at base len n) ≡ len
unfolding digits_at
length-digits_at base zero n = refl
length-digits_at base (suc len) n = omega (arith, length-digits_at base len n)

-- a quotient with one digit less, and that digit
quotient_parts : (base n p q r m acc x : ℕ) → q ≡ r * base + m → x + q * p ≡ (acc * base + m) * p + n → x + r * (p * base) ≡ acc * (p * base) + n
quotient_parts base n p q r m acc x split is =
    let left : q * p ≡ (r * base + m) * p = ap (λ (k : ℕ). k * p) split in
    omega arith

no_digits : (n acc p : ℕ) → p ≡ 1 → acc + n / p * p ≡ acc * p + n
no_digits n acc p one = rw one (omega (arith, div-one n))

-- the number of digits behind those of acc
pub fold_digits : (base len n acc : ℕ) → fold (λ n digit. n * base + digit) acc (digits_at base len n) + n / base ^ len * base ^ len ≡ acc * base ^ len + n
unfolding digits_at
fold_digits base zero n acc = no_digits n acc (base ^ zero) (pow-zero base)
fold_digits base (suc len) n acc =
    let p : ℕ = base ^ len in
    let q : ℕ = n / p in
    let x : ℕ = fold (λ n digit. n * base + digit) (acc * base + q % base) (digits_at base len n) in
    let next : q / base ≡ n / (p * base) = div-div-eq-div-mul n p base in
    let split : q ≡ q / base * base + q % base = sym (div-add-mod' q base) in
    let all : x + q / base * (p * base) ≡ acc * (p * base) + n = quotient_parts base n p q (q / base) (q % base) acc x split (fold_digits base len n (acc * base + q % base)) in
    rw (pow-suc base len, ← next) all

-- a number has no more digits than they are counted
pub count_below : (base most n : ℕ) → n < base ^ most → n < base ^ digit_count base most n
unfolding digit_count
count_below base zero n small = small
count_below base (suc most) n small = elim (cases_lt n (base ^ most)) [
  | inl low ↦ rw (lt-ltb n (base ^ most) low) (count_below base most n low)
  | inr high ↦ rw (le-ltb n (base ^ most) high) small
]

-- ---- characters

pub value_of_character : (d : ℕ) → d < 36 → digit_value (digit_character d) ≡ d
value_of_character d low = grind (arith, nat_tests)

pub characters_number : (ds : List ℕ) (acc : ℕ) → list_all (λ d. nat_lt d 10) ds ≡ true → number_after acc (map digit_character ds) ≡ fold (λ n digit. n * 10 + digit) acc ds
characters_number [] acc are = refl
characters_number (d ∷ ds) acc are =
    let parts = and_parts (nat_lt d 10) (list_all (λ d. nat_lt d 10) ds) are in
    let same : digit_character d - 48 ≡ d = rw parts.0 (omega arith) in
    ap (λ (digit : ℕ). number_after (acc * 10 + digit) (map digit_character ds)) same ∙ characters_number ds (acc * 10 + d) parts.1

pub characters_are_digits : (ds : List ℕ) → list_all (λ d. nat_lt d 10) ds ≡ true → list_all is_ascii_digit (map digit_character ds) ≡ true
characters_are_digits [] are = refl
characters_are_digits (d ∷ ds) are =
    let parts = and_parts (nat_lt d 10) (list_all (λ d. nat_lt d 10) ds) are in
    let digit : is_ascii_digit (digit_character d) ≡ true = grind (arith, nat_tests, parts.0) in
    rw digit (characters_are_digits ds parts.1)

-- ---- decimal digits

pub decimal_digits : (len n : ℕ) → list_all is_ascii_digit (map digit_character (digits_at 10 len n)) ≡ true
decimal_digits len n = characters_are_digits (digits_at 10 len n) (digits_below 10 len n (omega arith))

-- digits behind those of the quotient are the whole number
pub digits_behind : (len n : ℕ) → number_after (n / 10 ^ len) (map digit_character (digits_at 10 len n)) ≡ n
digits_behind len n =
    let same = characters_number (digits_at 10 len n) (n / 10 ^ len) (digits_below 10 len n (omega arith)) in
    omega (arith, same, fold_digits 10 len n (n / 10 ^ len))

-- a number that has no more digits is what they write
pub digits_number : (len n : ℕ) → n < 10 ^ len → number_of (map digit_character (digits_at 10 len n)) ≡ n
digits_number len n small = ap (λ (q : ℕ). number_after q (map digit_character (digits_at 10 len n))) (sym (div-eq_of_lt small)) ∙ digits_behind len n

pub integer_number : (least n : ℕ) → n < 10 ^ 39 → number_of (map digit_character (digits_at 10 (max least (digit_count 10 39 n)) n)) ≡ n
integer_number least n small =
    let count : ℕ = max least (digit_count 10 39 n) in
    let enough : 10 ^ digit_count 10 39 n ≤ 10 ^ count = pow-le-pow_right {n = 10} (omega arith) (let less : digit_count 10 39 n ≤ count = omega arith in less) in
    digits_number count n (le_trans (count_below 10 39 n small) enough)

-- there are at least so many digits
pub integer_length : (least n : ℕ) → least ≤ length (map digit_character (digits_at 10 (max least (digit_count 10 39 n)) n))
integer_length least n =
    let count : ℕ = max least (digit_count 10 39 n) in
    omega (arith, length-map (digits_at 10 count n) digit_character, length-digits_at 10 count n)
