-- The bytes of a character by its size.
use Rattle.std.proofs.Common.{◌≡◌, ℕ, ◌+◌, ◌-◌, ◌*◌, ◌/◌, ◌%◌, ◌<◌, ◌≤◌, ◌⊎◌, [], ◌∷◌, arith, ◌∙◌}
use Rattle.std.proofs.Common.{inl, inr}
use Rattle.std.proofs.lemmas.Bool.Decides.{nat_tests}
use Rattle.dfdl_xml_chars.specs.Utf8.{code_of_two, code_of_three, code_of_four}
use Rattle.dfdl_xml_chars.proofs.Pairs.{IsPair, IsThree, three_front, four_front}
use Rattle.dfdl_xml_chars.proofs.Sees.{IsTail}
use Rattle.std.specs.Char.{encode_utf8, IsScalar}

pub encode_one : (c : ℕ) → c < 128 → encode_utf8 c ≡ c ∷ []
unfolding encode_utf8
encode_one c less = grind (arith, nat_tests)

pub encode_two : (c : ℕ) → 128 ≤ c → c < 2048 → encode_utf8 c ≡ (192 + c / 64) ∷ (128 + c % 64) ∷ []
unfolding encode_utf8
encode_two c least less = grind (arith, nat_tests)

pub encode_three : (c : ℕ) → 2048 ≤ c → c < 65536
    → encode_utf8 c ≡ (224 + c / 4096) ∷ (128 + c / 64 % 64) ∷ (128 + c % 64) ∷ []
unfolding encode_utf8
encode_three c least less = grind (arith, nat_tests)

pub encode_four : (c : ℕ) → 65536 ≤ c
    → encode_utf8 c
    ≡ (240 + c / 262144) ∷ (128 + c / 4096 % 64) ∷ (128 + c / 64 % 64) ∷ (128 + c % 64) ∷ []
unfolding encode_utf8
encode_four c least = grind (arith, nat_tests)

pub scalar_range : (c : ℕ) → c < 0xD800 → IsScalar c
scalar_range c less = grind (arith, nat_tests)

pub scalar_past : (c : ℕ) → 0xE000 ≤ c → c < 0x11_0000 → IsScalar c
scalar_past c least less = grind (arith, nat_tests)

pub encoded_two : (a b c : ℕ) → c ≡ code_of_two a b → 0xC2 ≤ a → a < 0xE0 → 0x80 ≤ b → b ≤ 0xBF
    → encode_utf8 c ≡ a ∷ b ∷ []
encoded_two a b c is a_least a_less b_least b_most =
    let first : 192 + c / 64 ≡ a = omega arith in
    let second : 128 + c % 64 ≡ b = omega arith in
    encode_two c (omega arith) (omega arith) ∙ cc

pub encoded_three : (a b c n : ℕ) → n ≡ code_of_three a b c → IsPair a b → 0xE0 ≤ a → a < 0xF0
    → IsTail c → encode_utf8 n ≡ a ∷ b ∷ c ∷ []
encoded_three a b c n is pair least less tail =
    let front = three_front a b pair least less in
    let bounds = pair.least in
    let size : 2048 ≤ n = omega (arith, front.least) in
    let first : 224 + n / 4096 ≡ a = omega arith in
    let second : 128 + n / 64 % 64 ≡ b = omega arith in
    let third : 128 + n % 64 ≡ c = omega arith in
    encode_three n size (omega (arith, front.most)) ∙ cc

pub encoded_four : (a b c d n : ℕ) → n ≡ code_of_four a b c d → IsPair a b → 0xF0 ≤ a → IsTail c
    → IsTail d → encode_utf8 n ≡ a ∷ b ∷ c ∷ d ∷ []
encoded_four a b c d n is pair least third fourth =
    let front = four_front a b pair least in
    let size : 65536 ≤ n = omega (arith, front.least) in
    let first : 240 + n / 262144 ≡ a = omega arith in
    let second : 128 + n / 4096 % 64 ≡ b = omega arith in
    let third : 128 + n / 64 % 64 ≡ c = omega arith in
    let last : 128 + n % 64 ≡ d = omega arith in
    encode_four n size ∙ cc

scalar_front : (front c : ℕ) → IsThree front → c < 64 → IsScalar (front * 64 + c)
scalar_front front c three less = elim three.no_surrogate [
  | inl low ↦ scalar_range (front * 64 + c) (omega arith)
  | inr high ↦ (let most = three.most in scalar_past (front * 64 + c) (omega arith) (omega arith))
]

pub scalar_three : (a b c : ℕ) → IsPair a b → 0xE0 ≤ a → a < 0xF0 → IsTail c
    → IsScalar (code_of_three a b c)
scalar_three a b c pair least less tail =
    let most = tail.most in
    scalar_front ((a - 0xE0) * 64 + (b - 0x80)) (c - 0x80) (three_front a b pair least less)
    (omega arith)

pub scalar_four : (a b c d : ℕ) → IsPair a b → 0xF0 ≤ a → IsTail c → IsTail d
    → IsScalar (code_of_four a b c d)
scalar_four a b c d pair least third fourth =
    let front = four_front a b pair least in
    let last = fourth.most in
    let most = third.most in
    scalar_past (code_of_four a b c d) (omega (arith, front.least)) (omega (arith, front.most))

-- a character is below the surrogates, or above them
pub scalar_parts : (c : ℕ) → IsScalar c → ((c < 0xD800) ⊎ (0xE000 ≤ c)) × (c < 0x11_0000)
scalar_parts c scalar = grind (arith, nat_tests)
