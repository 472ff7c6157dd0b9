-- The bytes of a character in UTF-8 are a sequence, and the bytes before the last one begin it.
use Rattle.std.proofs.Common.{◌≡◌, ℕ, ◌+◌, ◌/◌, ◌%◌, ◌<◌, ◌≤◌, ◌⊎◌, true, false, [], ◌∷◌, arith}
use Rattle.std.proofs.lemmas.Bool.Decides.{nat_tests}
use Rattle.std.specs.Char.{encode_utf8, IsScalar}
use Rattle.dfdl_chars.specs.Sequences.{is_sequence, is_begun, code_of, IsTail, IsFront}

-- the bytes of a character by their number
pub encode_one : (c : ℕ) → c < 128 → encode_utf8 c ≡ c ∷ []
unfolding encode_utf8
encode_one c less = grind (arith, nat_tests)

pub encode_two : (c : ℕ) → 128 ≤ c → c < 2048 → encode_utf8 c ≡ (192 + c / 64) ∷ (128 + c % 64) ∷ []
unfolding encode_utf8
encode_two c least less = grind (arith, nat_tests)

pub encode_three : (c : ℕ) → 2048 ≤ c → c < 65536
    → encode_utf8 c ≡ (224 + c / 4096) ∷ (128 + c / 64 % 64) ∷ (128 + c % 64) ∷ []
unfolding encode_utf8
encode_three c least less = grind (arith, nat_tests)

pub encode_four : (c : ℕ) → 65536 ≤ c
    → encode_utf8 c ≡ (240 + c / 262144) ∷ (128 + c / 4096 % 64) ∷ (128 + c / 64 % 64) ∷
    (128 + c % 64) ∷ []
unfolding encode_utf8
encode_four c least = grind (arith, nat_tests)

-- a character is below the surrogates, or above them
pub scalar_parts : (c : ℕ) → IsScalar c → ((c < 0xD800) ⊎ (0xE000 ≤ c)) × (c < 0x11_0000)
scalar_parts c scalar = grind (arith, nat_tests)

-- what begins a sequence and what is one, by the ranges of the bytes
pub begun_one : (a : ℕ) → 0xC2 ≤ a → a ≤ 0xF4 → is_begun (a ∷ []) ≡ true
unfolding is_begun
begun_one a least most = grind (arith, nat_tests)

pub whole_two : (a b : ℕ) → 0xC2 ≤ a → a ≤ 0xDF → IsTail b → is_sequence (a ∷ b ∷ []) ≡ true
unfolding is_sequence
whole_two a b least most tail = grind (arith, nat_tests)

pub part_two : (a b : ℕ) → 0xE0 ≤ a → is_sequence (a ∷ b ∷ []) ≡ false
unfolding is_sequence
part_two a b least = grind (arith, nat_tests)

pub begun_two : (a b : ℕ) → IsFront a b → is_begun (a ∷ b ∷ []) ≡ true
unfolding is_begun
begun_two a b front = grind (arith, nat_tests)

pub whole_three : (a b c : ℕ) → IsFront a b → a < 0xF0 → IsTail c
    → is_sequence (a ∷ b ∷ c ∷ []) ≡ true
unfolding is_sequence
whole_three a b c front less tail = grind (arith, nat_tests)

pub part_three : (a b c : ℕ) → 0xF0 ≤ a → is_sequence (a ∷ b ∷ c ∷ []) ≡ false
unfolding is_sequence
part_three a b c least = grind (arith, nat_tests)

pub begun_three : (a b c : ℕ) → IsFront a b → 0xF0 ≤ a → IsTail c → is_begun (a ∷ b ∷ c ∷ []) ≡ true
unfolding is_begun
begun_three a b c front least tail = grind (arith, nat_tests)

pub whole_four : (a b c d : ℕ) → IsFront a b → 0xF0 ≤ a → IsTail c → IsTail d
    → is_sequence (a ∷ b ∷ c ∷ d ∷ []) ≡ true
unfolding is_sequence
whole_four a b c d front least third fourth = grind (arith, nat_tests)

-- the bytes of a character lie in these ranges
pub tail_of : (n : ℕ) → IsTail (128 + n % 64)
tail_of n = (omega arith, omega arith)

pub front_of_three : (c : ℕ) → 2048 ≤ c → c < 65536 → (c < 0xD800) ⊎ (0xE000 ≤ c)
    → IsFront (224 + c / 4096) (128 + c / 64 % 64)
front_of_three c least less no_surrogate = record {
  first_least = omega arith;
  first_most = omega arith;
  least = omega arith;
  most = omega arith;
  no_overlong_three = λ e. omega arith;
  no_surrogate = λ e. omega arith;
  no_overlong_four = λ e. omega arith;
  not_past = λ e. omega arith;
}

pub front_of_four : (c : ℕ) → 65536 ≤ c → c < 0x11_0000
    → IsFront (240 + c / 262144) (128 + c / 4096 % 64)
front_of_four c least less = record {
  first_least = omega arith;
  first_most = omega arith;
  least = omega arith;
  most = omega arith;
  no_overlong_three = λ e. omega arith;
  no_surrogate = λ e. omega arith;
  no_overlong_four = λ e. omega arith;
  not_past = λ e. omega arith;
}

-- and stand for its code point
pub code_two : (c : ℕ) → code_of ((192 + c / 64) ∷ (128 + c % 64) ∷ []) ≡ c
unfolding code_of
code_two c = omega arith

pub code_three : (c : ℕ) → code_of ((224 + c / 4096) ∷ (128 + c / 64 % 64) ∷ (128 + c % 64) ∷ [])
    ≡ c
unfolding code_of
code_three c = omega arith

pub code_four : (c : ℕ) → code_of
    ((240 + c / 262144) ∷ (128 + c / 4096 % 64) ∷ (128 + c / 64 % 64) ∷ (128 + c % 64) ∷ []) ≡ c
unfolding code_of
code_four c = omega arith
