-- The tests of sequences as facts on numbers.
use Rattle.std.proofs.Common.{◌≡◌, ℕ, ◌+◌, ◌-◌, ◌*◌, ◌<◌, ◌≤◌, ◌⊎◌, true, arith}
use Rattle.std.proofs.lemmas.Bool.Decides.{nat_tests}
use Rattle.dfdl_xml_chars.specs.Utf8.{is_pair}

-- what the two first bytes of a sequence keep
pub record IsPair (a b : ℕ) : Type 0 where
  pub first_least : 0xC2 ≤ a
  pub first_most : a ≤ 0xF4
  pub least : 0x80 ≤ b
  pub most : b ≤ 0xBF
  pub no_overlong_three : a ≡ 0xE0 → 0xA0 ≤ b
  pub no_surrogate : a ≡ 0xED → b ≤ 0x9F
  pub no_overlong_four : a ≡ 0xF0 → 0x90 ≤ b
  pub not_past : a ≡ 0xF4 → b ≤ 0x8F

pub pair_facts : (a b : ℕ) → is_pair a b ≡ true → IsPair a b
pair_facts a b is = grind (arith, nat_tests)

pub facts_pair : (a b : ℕ) → IsPair a b → is_pair a b ≡ true
facts_pair a b facts = grind (arith, nat_tests)

-- the first two bytes of a sequence of three lead to no overlong form and to no surrogate
pub record IsThree (front : ℕ) : Type 0 where
  pub least : 32 ≤ front
  pub no_surrogate : (front < 864) ⊎ (896 ≤ front)
  pub most : front < 1024

pub three_front : (a b : ℕ) → IsPair a b → 0xE0 ≤ a → a < 0xF0
    → IsThree ((a - 0xE0) * 64 + (b - 0x80))
three_front a b pair least less =
    record { least = grind arith; no_surrogate = grind arith; most = grind arith }

-- and those of one of four to no overlong form, and to nothing past the last code
pub record IsFour (front : ℕ) : Type 0 where
  pub least : 16 ≤ front
  pub most : front < 272

pub four_front : (a b : ℕ) → IsPair a b → 0xF0 ≤ a → IsFour ((a - 0xF0) * 64 + (b - 0x80))
four_front a b pair least = record { least = grind arith; most = grind arith }
