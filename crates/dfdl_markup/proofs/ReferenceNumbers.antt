-- The numbers of references: each that is a code point becomes an allowed character by digits
-- behind it, none or few.
use Rattle.std.proofs.Common.{◌≡◌, ℕ, ◌+◌, ◌*◌, ◌<◌, ◌≤◌, ◌⊎◌, Bool, true, false, List, [], ◌∷◌}
use Rattle.std.proofs.Common.{◌++◌, refl, ap, ◌∙◌, inl, inr, arith}
use Rattle.std.proofs.lemmas.Bool.{cases_Bool, cases_lt}
use Rattle.std.proofs.lemmas.Bool.Decides.{nat_tests}
use Rattle.dfdl_layers.specs.Tellers.{Each}
use Rattle.dfdl_xml_chars.specs.Characters.{is_allowed, char_rows}
use Rattle.dfdl_markup.specs.Values.{is_digit, digit_value, base_of, number_on}

-- the number of digits and more digits
pub number_on-append : (hexadecimal : Bool) (value : ℕ) (digits more : List ℕ)
    → number_on hexadecimal value (digits ++ more)
    ≡ number_on hexadecimal (number_on hexadecimal value digits) more
number_on-append hexadecimal value [] more = refl
number_on-append hexadecimal value (c ∷ digits) more =
    number_on-append hexadecimal (value * base_of hexadecimal + digit_value c) digits more

-- digits behind a number that make it an allowed character
pub record Grows (hexadecimal : Bool) (value : ℕ) : Type 0 where
  pub more : List ℕ
  pub digits : Each (λ c. is_digit hexadecimal c ≡ true) more
  pub allowed : is_allowed (number_on hexadecimal value more) ≡ true

zero_digit : (hexadecimal : Bool) → is_digit hexadecimal 48 ≡ true
unfolding is_digit
zero_digit true = refl
zero_digit false = refl

nine_digit : (hexadecimal : Bool) → is_digit hexadecimal 57 ≡ true
unfolding is_digit
nine_digit true = refl
nine_digit false = refl

zero_worth : digit_value 48 ≡ 0
unfolding digit_value
zero_worth = refl

nine_worth : digit_value 57 ≡ 9
unfolding digit_value
nine_worth = refl

-- what isn't allowed of the code points
not_allowed : (n : ℕ) → n ≤ 0x10FFFF → is_allowed n ≡ false
    → (n < 32) ⊎ ((0xD800 ≤ n) × (n ≤ 0xFFFF))
unfolding is_allowed char_rows
not_allowed n most none = grind (arith, nat_tests)

allowed_middle : (n : ℕ) → 32 ≤ n → n < 0xD800 → is_allowed n ≡ true
unfolding is_allowed char_rows
allowed_middle n least less = grind (arith, nat_tests)

allowed_high : (n : ℕ) → 0x10000 ≤ n → n ≤ 0x10FFFF → is_allowed n ≡ true
unfolding is_allowed char_rows
allowed_high n least most = grind (arith, nat_tests)

pub nine_allowed : is_allowed 9 ≡ true
unfolding is_allowed char_rows
nine_allowed = refl

is_nine : (hexadecimal : Bool) (n : ℕ) → n ≡ 0 → n * base_of hexadecimal + digit_value 57 ≡ 9
is_nine true n none = let worth = nine_worth in omega arith
is_nine false n none = let worth = nine_worth in omega arith

by_nine : (hexadecimal : Bool) (value : ℕ) → value ≡ 0 → Grows hexadecimal value
by_nine hexadecimal value none = record {
  more = 57 ∷ [];
  digits = (nine_digit hexadecimal, tt);
  allowed = ap is_allowed (is_nine hexadecimal value none) ∙ nine_allowed;
}

-- the digit nine alone is one
pub nine_digits : (hexadecimal : Bool) → Each (λ c. is_digit hexadecimal c ≡ true) (57 ∷ [])
    × (is_allowed (number_on hexadecimal 0 (57 ∷ [])) ≡ true)
nine_digits hexadecimal = (
  (nine_digit hexadecimal, tt),
  ap is_allowed (is_nine hexadecimal 0 refl) ∙ nine_allowed,
)

by_zeros : (hexadecimal : Bool) (value : ℕ) → 0 < value → value < 32 → Grows hexadecimal value
by_zeros true value some less = record {
  more = 48 ∷ 48 ∷ [];
  digits = (zero_digit true, (zero_digit true, tt));
  allowed =
      (let worth = zero_worth in
      allowed_middle ((value * 16 + digit_value 48) * 16 + digit_value 48) (omega arith)
      (omega arith));
}
by_zeros false value some less = record {
  more = 48 ∷ 48 ∷ [];
  digits = (zero_digit false, (zero_digit false, tt));
  allowed =
      (let worth = zero_worth in
      allowed_middle ((value * 10 + digit_value 48) * 10 + digit_value 48) (omega arith)
      (omega arith));
}

by_zero : (hexadecimal : Bool) (value : ℕ) → 0xD800 ≤ value → value ≤ 0xFFFF
    → Grows hexadecimal value
by_zero true value least most = record {
  more = 48 ∷ [];
  digits = (zero_digit true, tt);
  allowed =
      (let worth = zero_worth in
      allowed_high (value * 16 + digit_value 48) (omega arith) (omega arith));
}
by_zero false value least most = record {
  more = 48 ∷ [];
  digits = (zero_digit false, tt);
  allowed =
      (let worth = zero_worth in
      allowed_high (value * 10 + digit_value 48) (omega arith) (omega arith));
}

by_digits : (hexadecimal : Bool) (value : ℕ) → (value < 32) ⊎ ((0xD800 ≤ value) × (value ≤ 0xFFFF))
    → Grows hexadecimal value
by_digits hexadecimal value parts = elim parts [
  | inl small ↦ (elim (cases_lt 0 value) [
    | inl some ↦ by_zeros hexadecimal value some small
    | inr none ↦ by_nine hexadecimal value (omega arith)
  ])
  | inr large ↦ by_zero hexadecimal value large.0 large.1
]

-- each code point grows to an allowed character
pub grows : (hexadecimal : Bool) (value : ℕ) → value ≤ 0x10FFFF → Grows hexadecimal value
grows hexadecimal value most = elim (cases_Bool (is_allowed value)) [
  | inl is ↦ record { more = []; digits = tt; allowed = is }
  | inr none ↦ by_digits hexadecimal value (not_allowed value most none)
]

-- digits are worth less than the base
pub digit_least : (hexadecimal : Bool) (c : ℕ) → is_digit hexadecimal c ≡ true → digit_value c ≤ 15
unfolding is_digit digit_value
digit_least true c is = grind (arith, nat_tests)
digit_least false c is = grind (arith, nat_tests)

-- and are letters and figures
pub digit_plain : (hexadecimal : Bool) (c : ℕ) → is_digit hexadecimal c ≡ true → (32 ≤ c) ×
    (c < 128)
unfolding is_digit
digit_plain true c is = (grind (arith, nat_tests), grind (arith, nat_tests))
digit_plain false c is = (grind (arith, nat_tests), grind (arith, nat_tests))
