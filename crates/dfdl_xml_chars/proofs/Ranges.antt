-- The characters that begin with a part of one are those of an interval.
use Rattle.std.proofs.Common.{◌≡◌, ℕ, ◌+◌, ◌-◌, ◌*◌, ◌/◌, ◌%◌, ◌<◌, ◌≤◌, ◌⊎◌, List, [], ◌∷◌, sym}
use Rattle.std.proofs.Common.{ap, ap₂, ◌∙◌, inl, inr, arith}
use Rattle.std.proofs.lemmas.Bool.{cases_lt}
use Rattle.std.proofs.lemmas.Bool.Decides.{nat_tests}
use Rattle.std.specs.Char.{encode_utf8, IsScalar}
use Rattle.dfdl_layers.specs.Bytes.{Part, IsBegun}
use Rattle.dfdl_xml_chars.specs.Utf8.{see, low_of, high_of}
use Rattle.dfdl_xml_chars.proofs.Pairs.{IsPair, IsThree, three_front, four_front}
use Rattle.dfdl_xml_chars.proofs.Sees.{IsTail, part_one, part_two, part_three, no_part_none}
use Rattle.dfdl_xml_chars.proofs.Sees.{no_part_four, no_part_more}
use Rattle.dfdl_xml_chars.proofs.Encodes.{encode_one, encode_two, encode_three, encode_four}
use Rattle.dfdl_xml_chars.proofs.Encodes.{scalar_range, scalar_past, scalar_parts}

-- the code lies between the least and the greatest that begin so
pub record IsWithin (bytes : List ℕ) (c : ℕ) : Type 0 where
  pub low : low_of bytes ≤ c
  pub high : c ≤ high_of bytes

one_two : (a c : ℕ) → 0xC2 ≤ a → a < 0xE0 → IsWithin (a ∷ []) c
    → (128 ≤ c) × (c < 2048) × (192 + c / 64 ≡ a)
unfolding low_of high_of
one_two a c least less within =
    let low : (a - 0xC0) * 64 ≤ c = grind (arith, nat_tests, within.low) in
    let high : c ≤ (a - 0xC0) * 64 + 63 = grind (arith, nat_tests, within.high) in
    (omega arith, omega arith, omega arith)

one_three : (a c : ℕ) → 0xE0 ≤ a → a < 0xF0 → IsWithin (a ∷ []) c
    → (2048 ≤ c) × (c < 65536) × ((c < 0xD800) ⊎ (0xE000 ≤ c)) × (224 + c / 4096 ≡ a)
unfolding low_of high_of
one_three a c least less within =
    let low : (2048 ≤ c) × ((a - 0xE0) * 4096 ≤ c) = grind (arith, nat_tests, within.low) in
    let high : c ≤ (a - 0xE0) * 4096 + 4095 = grind (arith, nat_tests, within.high) in
    let no_surrogate : (c < 0xD800) ⊎ (0xE000 ≤ c) = grind (arith, nat_tests, within.high, low.1) in
    (low.0, omega arith, no_surrogate, omega (arith, low.1))

one_four : (a c : ℕ) → 0xF0 ≤ a → a ≤ 0xF4 → IsWithin (a ∷ []) c
    → (65536 ≤ c) × (c < 0x11_0000) × (240 + c / 262144 ≡ a)
unfolding low_of high_of
one_four a c least most within =
    let low : (65536 ≤ c) × ((a - 0xF0) * 262144 ≤ c) = grind (arith, nat_tests, within.low) in
    let high : (c < 0x11_0000) × (c ≤ (a - 0xF0) * 262144 + 262143) =
    grind (arith, nat_tests, within.high) in
    (low.0, high.0, omega (arith, low.1, high.1))

two_three : (a b c : ℕ) → IsPair a b → 0xE0 ≤ a → a < 0xF0 → IsWithin (a ∷ b ∷ []) c
    → (2048 ≤ c) × (c < 65536) × ((c < 0xD800) ⊎ (0xE000 ≤ c)) × (224 + c / 4096 ≡ a)
    × (128 + c / 64 % 64 ≡ b)
unfolding low_of high_of
two_three a b c pair least less within =
    let front = three_front a b pair least less in
    let low : ((a - 0xE0) * 64 + (b - 0x80)) * 64 ≤ c = grind (arith, nat_tests, within.low) in
    let high : c ≤ ((a - 0xE0) * 64 + (b - 0x80)) * 64 + 63 =
    grind (arith, nat_tests, within.high) in
    let tail_least = pair.least in
    let tail_most = pair.most in
    let no_surrogate : (c < 0xD800) ⊎ (0xE000 ≤ c) =
    no_surrogate_in ((a - 0xE0) * 64 + (b - 0x80)) c front low high in
    (omega (arith, front.least), omega (arith, front.most), no_surrogate, omega arith, omega arith)
  where
    no_surrogate_in : (n d : ℕ) → IsThree n → n * 64 ≤ d → d ≤ n * 64 + 63
        → (d < 0xD800) ⊎ (0xE000 ≤ d)
    no_surrogate_in n d three low high =
        elim three.no_surrogate [ inl below ↦ inl (omega arith) | inr above ↦ inr (omega arith) ]

two_four : (a b c : ℕ) → IsPair a b → 0xF0 ≤ a → IsWithin (a ∷ b ∷ []) c
    → (65536 ≤ c) × (c < 0x11_0000) × (240 + c / 262144 ≡ a) × (128 + c / 4096 % 64 ≡ b)
unfolding low_of high_of
two_four a b c pair least within =
    let front = four_front a b pair least in
    let low : ((a - 0xF0) * 64 + (b - 0x80)) * 4096 ≤ c = grind (arith, nat_tests, within.low) in
    let high : c ≤ ((a - 0xF0) * 64 + (b - 0x80)) * 4096 + 4095 =
    grind (arith, nat_tests, within.high) in
    let tail_least = pair.least in
    let tail_most = pair.most in
    (omega (arith, front.least), omega (arith, front.most), omega arith, omega arith)

three_four : (a b d c : ℕ) → IsPair a b → 0xF0 ≤ a → IsTail d → IsWithin (a ∷ b ∷ d ∷ []) c
    → (65536 ≤ c) × (c < 0x11_0000) × (240 + c / 262144 ≡ a) × (128 + c / 4096 % 64 ≡ b)
    × (128 + c / 64 % 64 ≡ d)
unfolding low_of high_of
three_four a b d c pair least tail within =
    let front = four_front a b pair least in
    let low : (((a - 0xF0) * 64 + (b - 0x80)) * 64 + (d - 0x80)) * 64 ≤ c =
    grind (arith, nat_tests, within.low) in
    let high : c ≤ (((a - 0xF0) * 64 + (b - 0x80)) * 64 + (d - 0x80)) * 64 + 63 =
    grind (arith, nat_tests, within.high) in
    let tail_least = pair.least in
    let tail_most = pair.most in
    let third_least = tail.least in
    let third_most = tail.most in
    (omega (arith, front.least), omega (arith, front.most), omega arith, omega arith, omega arith)

scalar_below : (c : ℕ) → (c < 0xD800) ⊎ (0xE000 ≤ c) → c < 0x11_0000 → IsScalar c
scalar_below c parts less =
    elim parts [ inl low ↦ scalar_range c low | inr high ↦ scalar_past c high less ]

begun_two : (a c : ℕ) → 128 ≤ c → c < 2048 → 192 + c / 64 ≡ a
    → IsBegun IsScalar encode_utf8 (a ∷ []) c
begun_two a c least less first = record {
  scalar = scalar_range c (omega arith);
  rest = (128 + c % 64) ∷ [];
  encoded = encode_two c least less ∙ ap (λ x. x ∷ (128 + c % 64) ∷ []) first;
}

begun_three : (a c : ℕ) → 2048 ≤ c → c < 65536 → (c < 0xD800) ⊎ (0xE000 ≤ c) → 224 + c / 4096 ≡ a
    → IsBegun IsScalar encode_utf8 (a ∷ []) c
begun_three a c least less parts first = record {
  scalar = scalar_below c parts (omega arith);
  rest = (128 + c / 64 % 64) ∷ (128 + c % 64) ∷ [];
  encoded =
      encode_three c least less ∙ ap (λ x. x ∷ (128 + c / 64 % 64) ∷ (128 + c % 64) ∷ []) first;
}

begun_four : (a c : ℕ) → 65536 ≤ c → c < 0x11_0000 → 240 + c / 262144 ≡ a
    → IsBegun IsScalar encode_utf8 (a ∷ []) c
begun_four a c least less first = record {
  scalar = scalar_past c (omega arith) less;
  rest = (128 + c / 4096 % 64) ∷ (128 + c / 64 % 64) ∷ (128 + c % 64) ∷ [];
  encoded =
      encode_four c least
      ∙ ap (λ x. x ∷ (128 + c / 4096 % 64) ∷ (128 + c / 64 % 64) ∷ (128 + c % 64) ∷ []) first;
}

begun_one_byte : (a c : ℕ) → see (a ∷ []) ≡ Part → IsWithin (a ∷ []) c
    → IsBegun IsScalar encode_utf8 (a ∷ []) c
begun_one_byte a c sees within =
    let lead = part_one a sees in
    elim (cases_lt a 0xE0) [
      | inl two ↦ (let is = one_two a c lead.0 two within in begun_two a c is.0 is.1 is.2)
      | inr past_two ↦ (elim (cases_lt a 0xF0) [
        | inl three ↦
            (let is = one_three a c past_two three within in begun_three a c is.0 is.1 is.2 is.3)
        | inr four ↦ (let is = one_four a c four lead.1 within in begun_four a c is.0 is.1 is.2)
      ])
    ]

begun_two_bytes : (a b c : ℕ) → see (a ∷ b ∷ []) ≡ Part → IsWithin (a ∷ b ∷ []) c
    → IsBegun IsScalar encode_utf8 (a ∷ b ∷ []) c
begun_two_bytes a b c sees within =
    let lead = part_two a b sees in
    elim (cases_lt a 0xF0) [
      | inl three ↦ (
          let is = two_three a b c lead.0 lead.1 three within in
          record {
            scalar = scalar_below c is.2 (omega (arith, is.1));
            rest = (128 + c % 64) ∷ [];
            encoded =
                encode_three c is.0 is.1 ∙ ap₂ (λ (x y : ℕ). x ∷ y ∷ (128 + c % 64) ∷ []) is.3 is.4;
          })
      | inr four ↦ (
          let is = two_four a b c lead.0 four within in
          record {
            scalar = scalar_past c (omega (arith, is.0)) is.1;
            rest = (128 + c / 64 % 64) ∷ (128 + c % 64) ∷ [];
            encoded =
                encode_four c is.0
                ∙ ap₂
                (λ (x y : ℕ). x ∷ y ∷ (128 + c / 64 % 64) ∷ (128 + c % 64) ∷ []) is.2 is.3;
          })
    ]

begun_three_bytes : (a b d c : ℕ) → see (a ∷ b ∷ d ∷ []) ≡ Part → IsWithin (a ∷ b ∷ d ∷ []) c
    → IsBegun IsScalar encode_utf8 (a ∷ b ∷ d ∷ []) c
begun_three_bytes a b d c sees within =
    let lead = part_three a b d sees in
    let is = three_four a b d c lead.0 lead.1 lead.2 within in
    record {
      scalar = scalar_past c (omega (arith, is.0)) is.1;
      rest = (128 + c % 64) ∷ [];
      encoded = encode_four c is.0
          ∙ (ap₂ (λ (x y : ℕ). x ∷ y ∷ (128 + c / 64 % 64) ∷ (128 + c % 64) ∷ []) is.2 is.3
          ∙ ap (λ z. a ∷ b ∷ z ∷ (128 + c % 64) ∷ []) is.4);
    }

-- each code of the interval begins so
pub begun_by : (bytes : List ℕ) (c : ℕ) → see bytes ≡ Part → IsWithin bytes c
    → IsBegun IsScalar encode_utf8 bytes c
begun_by [] c sees within = absurd (no_part_none sees)
begun_by (a ∷ []) c sees within = begun_one_byte a c sees within
begun_by (a ∷ b ∷ []) c sees within = begun_two_bytes a b c sees within
begun_by (a ∷ b ∷ d ∷ []) c sees within = begun_three_bytes a b d c sees within
begun_by (a ∷ b ∷ d ∷ e ∷ []) c sees within = absurd (no_part_four a b d e sees)
begun_by (a ∷ b ∷ d ∷ e ∷ f ∷ rest) c sees within = absurd (no_part_more a b d e f rest sees)

within_two : (a c : ℕ) → 128 ≤ c → c < 2048 → 192 + c / 64 ≡ a → IsWithin (a ∷ []) c
unfolding low_of high_of
within_two a c least less first =
    record { low = grind (arith, nat_tests); high = grind (arith, nat_tests) }

within_three : (a c : ℕ) → 2048 ≤ c → c < 65536 → (c < 0xD800) ⊎ (0xE000 ≤ c) → 224 + c / 4096 ≡ a
    → IsWithin (a ∷ []) c
unfolding low_of high_of
within_three a c least less parts first =
    record { low = grind (arith, nat_tests); high = grind (arith, nat_tests) }

within_four : (a c : ℕ) → 65536 ≤ c → c < 0x11_0000 → 240 + c / 262144 ≡ a → IsWithin (a ∷ []) c
unfolding low_of high_of
within_four a c least less first =
    record { low = grind (arith, nat_tests); high = grind (arith, nat_tests) }

within_three_two : (a b c : ℕ) → 2048 ≤ c → c < 65536 → 224 + c / 4096 ≡ a → 128 + c / 64 % 64 ≡ b
    → IsWithin (a ∷ b ∷ []) c
unfolding low_of high_of
within_three_two a b c least less first second =
    record { low = grind (arith, nat_tests); high = grind (arith, nat_tests) }

within_four_two : (a b c : ℕ) → 65536 ≤ c → 240 + c / 262144 ≡ a → 128 + c / 4096 % 64 ≡ b
    → IsWithin (a ∷ b ∷ []) c
unfolding low_of high_of
within_four_two a b c least first second =
    record { low = grind (arith, nat_tests); high = grind (arith, nat_tests) }

within_four_three : (a b d c : ℕ) → 65536 ≤ c → 240 + c / 262144 ≡ a → 128 + c / 4096 % 64 ≡ b
    → 128 + c / 64 % 64 ≡ d → IsWithin (a ∷ b ∷ d ∷ []) c
unfolding low_of high_of
within_four_three a b d c least first second third =
    record { low = omega arith; high = omega arith }

-- the bytes of a character by its size, against any list that they are
within_of_one : (a c : ℕ) (rest : List ℕ) → see (a ∷ []) ≡ Part → IsScalar c
    → encode_utf8 c ≡ a ∷ rest → IsWithin (a ∷ []) c
within_of_one a c rest sees scalar is =
    let lead = part_one a sees in
    let parts = scalar_parts c scalar in
    elim (cases_lt c 128) [
      | inl one ↦
          (let all = sym (encode_one c one) ∙ is in let first : c ≡ a = cc in
          absurd (omega (arith, lead.0)))
      | inr past_one ↦ (elim (cases_lt c 2048) [
        | inl two ↦
            (let all = sym (encode_two c past_one two) ∙ is in let first : 192 + c / 64 ≡ a = cc in
            within_two a c past_one two first)
        | inr past_two ↦ (elim (cases_lt c 65536) [
          | inl three ↦
              (let all = sym (encode_three c past_two three) ∙ is in
              let first : 224 + c / 4096 ≡ a = cc in
              within_three a c past_two three parts.0 first)
          | inr four ↦
              (let all = sym (encode_four c four) ∙ is in let first : 240 + c / 262144 ≡ a = cc in
              within_four a c four parts.1 first)
        ])
      ])
    ]

within_of_two : (a b c : ℕ) (rest : List ℕ) → see (a ∷ b ∷ []) ≡ Part → IsScalar c
    → encode_utf8 c ≡ a ∷ b ∷ rest → IsWithin (a ∷ b ∷ []) c
within_of_two a b c rest sees scalar is =
    let lead = part_two a b sees in
    elim (cases_lt c 128) [
      | inl one ↦ (let all = sym (encode_one c one) ∙ is in absurd (cc))
      | inr past_one ↦ (elim (cases_lt c 2048) [
        | inl two ↦
            (let all = sym (encode_two c past_one two) ∙ is in let first : 192 + c / 64 ≡ a = cc in
            absurd (omega (arith, lead.1)))
        | inr past_two ↦ (elim (cases_lt c 65536) [
          | inl three ↦ (
              let all = sym (encode_three c past_two three) ∙ is in
              let first : 224 + c / 4096 ≡ a = cc in
              let second : 128 + c / 64 % 64 ≡ b = cc in
              within_three_two a b c past_two three first second)
          | inr four ↦ (
              let all = sym (encode_four c four) ∙ is in
              let first : 240 + c / 262144 ≡ a = cc in
              let second : 128 + c / 4096 % 64 ≡ b = cc in
              within_four_two a b c four first second)
        ])
      ])
    ]

within_of_three : (a b d c : ℕ) (rest : List ℕ) → see (a ∷ b ∷ d ∷ []) ≡ Part → IsScalar c
    → encode_utf8 c ≡ a ∷ b ∷ d ∷ rest → IsWithin (a ∷ b ∷ d ∷ []) c
within_of_three a b d c rest sees scalar is =
    let lead = part_three a b d sees in
    elim (cases_lt c 128) [
      | inl one ↦ (let all = sym (encode_one c one) ∙ is in absurd (cc))
      | inr past_one ↦ (elim (cases_lt c 2048) [
        | inl two ↦ (let all = sym (encode_two c past_one two) ∙ is in absurd (cc))
        | inr past_two ↦ (elim (cases_lt c 65536) [
          | inl three ↦ (
              let all = sym (encode_three c past_two three) ∙ is in
              let first : 224 + c / 4096 ≡ a = cc in
              absurd (omega (arith, lead.1)))
          | inr four ↦ (
              let all = sym (encode_four c four) ∙ is in
              let first : 240 + c / 262144 ≡ a = cc in
              let second : 128 + c / 4096 % 64 ≡ b = cc in
              let third : 128 + c / 64 % 64 ≡ d = cc in
              within_four_three a b d c four first second third)
        ])
      ])
    ]

-- each character that begins so has its code in the interval
pub within_by : (bytes : List ℕ) (c : ℕ) → see bytes ≡ Part → IsBegun IsScalar encode_utf8 bytes c
    → IsWithin bytes c
within_by [] c sees begun = absurd (no_part_none sees)
within_by (a ∷ []) c sees begun = within_of_one a c begun.rest sees begun.scalar begun.encoded
within_by (a ∷ b ∷ []) c sees begun = within_of_two a b c begun.rest sees begun.scalar begun.encoded
within_by (a ∷ b ∷ d ∷ []) c sees begun =
    within_of_three a b d c begun.rest sees begun.scalar begun.encoded
within_by (a ∷ b ∷ d ∷ e ∷ []) c sees begun = absurd (no_part_four a b d e sees)
within_by (a ∷ b ∷ d ∷ e ∷ f ∷ rest) c sees begun = absurd (no_part_more a b d e f rest sees)

-- the interval has a code, and it is the least of characters past ASCII that XML allows
pub record IsLow (bytes : List ℕ) : Type 0 where
  pub some : low_of bytes ≤ high_of bytes
  pub past : 128 ≤ low_of bytes
  pub allowed : low_of bytes % 64 ≡ 0

low_one : (a : ℕ) → 0xC2 ≤ a → a ≤ 0xF4 → IsLow (a ∷ [])
unfolding low_of high_of
low_one a least most =
    record {
      some = grind (arith, nat_tests);
      past = grind (arith, nat_tests);
      allowed = grind (arith, nat_tests);
    }

low_two : (a b : ℕ) → IsPair a b → 0xE0 ≤ a → IsLow (a ∷ b ∷ [])
unfolding low_of high_of
low_two a b pair least =
    record {
      some = grind (arith, nat_tests);
      past = grind (arith, nat_tests);
      allowed = grind (arith, nat_tests);
    }

low_three : (a b d : ℕ) → IsPair a b → 0xF0 ≤ a → IsTail d → IsLow (a ∷ b ∷ d ∷ [])
unfolding low_of high_of
low_three a b d pair least tail =
    record { some = omega arith; past = grind (arith, nat_tests); allowed = omega arith }

pub low_by : (bytes : List ℕ) → see bytes ≡ Part → IsLow bytes
low_by [] sees = absurd (no_part_none sees)
low_by (a ∷ []) sees = let lead = part_one a sees in low_one a lead.0 lead.1
low_by (a ∷ b ∷ []) sees = let lead = part_two a b sees in low_two a b lead.0 lead.1
low_by (a ∷ b ∷ d ∷ []) sees = let lead = part_three a b d sees in
    low_three a b d lead.0 lead.1 lead.2
low_by (a ∷ b ∷ d ∷ e ∷ []) sees = absurd (no_part_four a b d e sees)
low_by (a ∷ b ∷ d ∷ e ∷ f ∷ rest) sees = absurd (no_part_more a b d e f rest sees)
