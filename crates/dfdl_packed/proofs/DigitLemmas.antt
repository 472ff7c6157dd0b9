-- Digits are read as the number that they were made of.
use Rattle.std.proofs.Common.{◌≡◌, ℕ, zero, suc, ◌+◌, ◌*◌, ◌/◌, ◌%◌, ◌^◌, ◌<◌, true, nat_lt, List, [], ◌∷◌, ◌++◌, length, take, drop, get_or, fold, refl, ap, sym, ◌∙◌, zero-mul, add-one, arith}
use Rattle.std.proofs.lemmas.Bool.{lt-ltb}
use Rattle.std.proofs.lemmas.List.{drop_all, drop_more, take-append-drop}
use Rattle.std.proofs.Math.Nat.{div-eq_of_lt, div-one}
use Rattle.dfdl_packed.specs.Digits.{digits_number, are_digits, padded_digits}
use Rattle.dfdl_packed.proofs.ScaledLemmas.{power_more, next_quotient}

pub padded_are_digits : (len n : ℕ) → are_digits (padded_digits len n) ≡ true
unfolding padded_digits
padded_are_digits zero n = refl
padded_are_digits (suc len) n =
    let low : nat_lt (n / 10 ^ len % 10) 10 ≡ true = lt-ltb _ _ (omega arith) in
    rw low (padded_are_digits len n)

-- a quotient with one digit less, and that digit
quotient_parts : (n p q r acc x : ℕ) → q ≡ r * 10 + q % 10 → x + q * p ≡ (acc * 10 + q % 10) * p + n → x + r * (p * 10) ≡ acc * (p * 10) + n
quotient_parts n p q r acc x split is =
    let left : q * p ≡ (r * 10 + q % 10) * p = ap (λ (k : ℕ). k * p) split in
    omega (arith)

digits_after : (len n acc : ℕ) → fold (λ n digit. n * 10 + digit) acc (padded_digits len n) + n / 10 ^ len * 10 ^ len ≡ acc * 10 ^ len + n
unfolding padded_digits
digits_after zero n acc = omega (arith, div-one n)
digits_after (suc len) n acc =
    let q : ℕ = n / 10 ^ len in
    let x : ℕ = fold (λ n digit. n * 10 + digit) (acc * 10 + q % 10) (padded_digits len n) in
    let next : q / 10 ≡ n / 10 ^ (len + 1) = next_quotient n len in
    let split : q ≡ q / 10 * 10 + q % 10 = omega arith in
    let all : x + q / 10 * (10 ^ len * 10) ≡ acc * (10 ^ len * 10) + n = quotient_parts n (10 ^ len) q (q / 10) acc x split (digits_after len n (acc * 10 + q % 10)) in
    rw (← add-one len, power_more len, ← power_more len, ← next, power_more len) all

pub digits_back : (len n : ℕ) → n < 10 ^ len → digits_number (padded_digits len n) ≡ n
digits_back len n small =
    let none : n / 10 ^ len * 10 ^ len ≡ 0 = ap (λ (q : ℕ). q * 10 ^ len) (div-eq_of_lt small) ∙ zero-mul (10 ^ len) in
    omega (arith, digits_after len n 0)

-- digits and the last of them
pub last_apart : (xs : List ℕ) (k : ℕ) → length xs ≡ k + 1 → take k xs ++ get_or xs k 0 ∷ [] ≡ xs
last_apart xs k size =
    let end : drop (k + 1) xs ≡ [] = drop_all (k + 1) xs (omega arith) in
    ap (λ (ys : List ℕ). take k xs ++ ys) (ap (λ (ys : List ℕ). get_or xs k 0 ∷ ys) (sym end) ∙ sym (drop_more xs k 0 (omega arith)))
    ∙ take-append-drop k xs
