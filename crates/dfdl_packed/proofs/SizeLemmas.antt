-- How the size of a number goes on with its next digit.
use Rattle.std.proofs.Common.{◌≡◌, ◌≢◌, ℕ, ◌+◌, ◌-◌, ◌*◌, ◌/◌, ◌%◌, ◌^◌, ◌<◌, ◌≤◌, true, Option, Some, None, MatchOption, eqb, nat_eq, zero-mul, refl, ap, sym, ◌∙◌, mul-one, mul_assoc, inl, inr, arith}
use Rattle.std.specs.Option.{SomeIff, option_eq}
use Rattle.std.specs.Char.{is_ascii_digit}
use Rattle.std.proofs.lemmas.Bool.{cases_lt, cases_eq, ne_eqb}
use Rattle.std.proofs.lemmas.Bool.Decides.{nat_tests}
use Rattle.std.proofs.lemmas.Nat.{pow-add}
use Rattle.std.proofs.Math.Nat.{mul-le-mul_right}
use Rattle.dfdl_packed.specs.declared.size.Size.{Size}
use Rattle.dfdl_packed.specs.Sizes.{IsHeld, Shows}
use Rattle.dfdl_packed.proofs.Powers.{one_more, self_le, zeros_le}

pub zero_more : (size : Size) (n : ℕ) → Shows size n → Shows (record { mantissa = size.mantissa; zeros = size.zeros + 1 }) (n * 10)
zero_more size n shows = (shows.0, ap (λ (k : ℕ). k * 10) shows.1 ∙ sym (one_more shows.0 size.zeros), shows.2, shows.3)

-- what is held is the number
held_is : (o : Option ℕ) (v m : ℕ) → SomeIff o (v < 2 ^ 128) v → v ≡ m → MatchOption o (2 ^ 128 ≤ m) (λ x. x ≡ m)
held_is None v m iff same = elim (cases_lt v (2 ^ 128)) [ inl low ↦ absurd (iff low) | inr high ↦ omega arith ]
held_is (Some x) v m iff same = iff.1 ∙ same

-- a digit that isn't zero
pub digit_more : (size : Size) (held : Option ℕ) (mantissa n digit : ℕ) → Shows size n → size.mantissa ≡ Some mantissa
    → digit < 10 → digit ≢ 0 → SomeIff held (mantissa * 10 ^ (size.zeros + 1) + digit < 2 ^ 128) (mantissa * 10 ^ (size.zeros + 1) + digit)
    → Shows (record { mantissa = held; zeros = 0 }) (n * 10 + digit)
digit_more size held mantissa n digit shows is low some iff =
    let same : mantissa ≡ shows.0 = rw is at shows.3 in
    let all : mantissa * 10 ^ (size.zeros + 1) ≡ n * 10 = one_more mantissa size.zeros ∙ ap (λ (k : ℕ). k * 10) (ap (λ (m : ℕ). m * 10 ^ size.zeros) same ∙ sym shows.1) in
    (n * 10 + digit, sym (mul-one (n * 10 + digit)), (λ even. absurd (some (omega arith))), held_is held _ (n * 10 + digit) iff (omega arith))

pub digit_over : (size : Size) (n digit : ℕ) → Shows size n → size.mantissa ≡ None → digit < 10 → digit ≢ 0
    → Shows (record { mantissa = None; zeros = 0 }) (n * 10 + digit)
digit_over size n digit shows is low some =
    let large : 2 ^ 128 ≤ shows.0 = rw is at shows.3 in
    (n * 10 + digit, sym (mul-one (n * 10 + digit)), (λ even. absurd (some (omega arith))), omega (arith, self_le shows.0 size.zeros, shows.1))

-- only zero shows as zero
pub zero_test : (size : Size) (n : ℕ) → Shows size n → option_eq eqb size.mantissa (Some 0) ≡ nat_eq n 0
zero_test size n shows = rw shows.1 (by_held size.mantissa shows.0 shows.3)
  where
    by_held : (held : Option ℕ) (m : ℕ) → IsHeld held m → option_eq eqb held (Some 0) ≡ nat_eq (m * 10 ^ size.zeros) 0
    by_held None m large = sym (ne_eqb _ _ (λ zero. omega (arith, self_le m size.zeros)))
    by_held (Some x) m same = elim (cases_eq x 0) [
      | inl none ↦
          let zero : m * 10 ^ size.zeros ≡ 0 = ap (λ (k : ℕ). k * 10 ^ size.zeros) (sym same ∙ none) ∙ zero-mul (10 ^ size.zeros) in
          rw (none, zero) refl
      | inr some ↦
          ne_eqb x 0 some ∙ sym (ne_eqb _ _ (λ zero. some (omega (arith, self_le m size.zeros))))
    ]

-- ---- numbers of 64 bits
pub tenth_is : (m z : ℕ) → m % 10 ≡ 0 → m * 10 ^ z ≡ m / 10 * 10 ^ (z + 1)
tenth_is m z even =
    let is : m ≡ 10 * (m / 10) = omega arith in
    let turned : 10 * (m / 10 * 10 ^ z) ≡ m / 10 * 10 ^ z * 10 = omega arith in
    ap (λ (x : ℕ). x * 10 ^ z) is ∙ mul_assoc 10 (m / 10) (10 ^ z) ∙ turned ∙ sym (one_more (m / 10) z)

-- a number of i digits behind a front goes on with a digit
pub digit_small : (front n i digit : ℕ) → n + 1 ≤ (front + 1) * 10 ^ i → digit < 10 → n * 10 + digit + 1 ≤ (front + 1) * 10 ^ (i + 1)
digit_small front n i digit small low = omega (arith, one_more (front + 1) i)

-- and 64 bits hold that, if they hold as many digits as there are
pub digit_fits : (front n i len : ℕ) → n + 1 ≤ (front + 1) * 10 ^ i → i < len → (front + 1) * 10 ^ len ≤ 10 ^ 18 → (n + 1) * 10 ≤ 10 ^ 18
digit_fits front n i len small inside fits = omega (arith, one_more (front + 1) i, zeros_le (front + 1) (i + 1) len (omega arith))

pub few_fit : (len : ℕ) → len ≤ 18 → (0 + 1) * 10 ^ len ≤ 10 ^ 18
few_fit len few = omega (arith, zeros_le 1 len 18 few)

pub digit_low : (char : ℕ) → is_ascii_digit char ≡ true → char - 48 < 10
digit_low char plain = grind (arith, nat_tests)

-- digits around the one with the sign
pub around_fits : (n digit before behind : ℕ) → n + 1 ≤ (0 + 1) * 10 ^ before → digit < 10 → before + behind < 18 → (n * 10 + digit + 1) * 10 ^ behind ≤ 10 ^ 18
around_fits n digit before behind small low few =
    let next : n * 10 + digit + 1 ≤ 10 ^ (before + 1) = omega (arith, digit_small 0 n before digit small low) in
    let all : 10 ^ (before + 1 + behind) ≡ 10 ^ (before + 1) * 10 ^ behind = pow-add 10 (before + 1) behind in
    omega (arith, all, zeros_le 1 (before + 1 + behind) 18 (omega arith), mul-le-mul_right (10 ^ behind) next)

pub around_room : (n digit before behind : ℕ) → n + 1 ≤ (0 + 1) * 10 ^ before → digit < 10 → before + behind < 18 → n * 10 + digit < 2 ^ 64
around_room n digit before behind small low few = omega (arith, zeros_le 1 before 17 (omega arith))
