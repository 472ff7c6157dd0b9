-- The well-formed byte sequences of UTF-8.
use Rattle.std.specs.Prelude.{◌≡◌, ℕ, ◌≤◌, ◌+◌, ◌-◌, ◌*◌, Bool, true, false, ◌&&◌, nat_le, List, [], ◌∷◌}
use Rattle.std.specs.List.{list_any}

-- the bytes from the first to the second
abbrev pub Span : Type 0
Span = ℕ × ℕ

-- the byte is in the span
abbrev pub is_within : Span → ℕ → Bool
is_within span byte = nat_le span.0 byte && nat_le byte span.1

-- the bytes that go on in a sequence
abbrev pub tail : Span
tail = (0x80, 0xBF)

-- the rows of the table 'Well-Formed UTF-8 Byte Sequences' of the Unicode Standard: no overlong form, no surrogate,
-- nothing past U+10FFFF
abbrev pub rows : List (List Span)
rows =
    ((0x00, 0x7F) ∷ [])
    ∷ ((0xC2, 0xDF) ∷ tail ∷ [])
    ∷ ((0xE0, 0xE0) ∷ (0xA0, 0xBF) ∷ tail ∷ [])
    ∷ ((0xE1, 0xEC) ∷ tail ∷ tail ∷ [])
    ∷ ((0xED, 0xED) ∷ (0x80, 0x9F) ∷ tail ∷ [])
    ∷ ((0xEE, 0xEF) ∷ tail ∷ tail ∷ [])
    ∷ ((0xF0, 0xF0) ∷ (0x90, 0xBF) ∷ tail ∷ tail ∷ [])
    ∷ ((0xF1, 0xF3) ∷ tail ∷ tail ∷ tail ∷ [])
    ∷ ((0xF4, 0xF4) ∷ (0x80, 0x8F) ∷ tail ∷ tail ∷ [])
    ∷ []

-- each byte lies in the row's span at its place, and the row has as many
abbrev pub fills : List Span → List ℕ → Bool
fills [] [] = true
fills [] (b ∷ bs) = false
fills (span ∷ row) [] = false
fills (span ∷ row) (b ∷ bs) = is_within span b && fills row bs

-- each byte lies in the row's span at its place, and the row has more
abbrev pub begins : List Span → List ℕ → Bool
begins [] bs = false
begins (span ∷ row) [] = true
begins (span ∷ row) (b ∷ bs) = is_within span b && begins row bs

-- the bytes are a sequence
unfoldable pub is_sequence : List ℕ → Bool
is_sequence bytes = list_any (λ row. fills row bytes) rows

-- the bytes begin a sequence that is longer
unfoldable pub is_begun : List ℕ → Bool
is_begun bytes = list_any (λ row. begins row bytes) rows

-- the code point of the character that a sequence stands for
unfoldable pub code_of : List ℕ → ℕ
code_of (a ∷ []) = a
code_of (a ∷ b ∷ []) = (a - 0xC0) * 64 + (b - 0x80)
code_of (a ∷ b ∷ c ∷ []) = ((a - 0xE0) * 64 + (b - 0x80)) * 64 + (c - 0x80)
code_of (a ∷ b ∷ c ∷ d ∷ []) = (((a - 0xF0) * 64 + (b - 0x80)) * 64 + (c - 0x80)) * 64 + (d - 0x80)
code_of _ = 0

-- a byte that goes on in a sequence, and one that begins a sequence of two
abbrev pub IsTail : ℕ → Type 0
IsTail b = (0x80 ≤ b) × (b ≤ 0xBF)

-- the unit begins a pair of surrogates
abbrev pub BeginsPair : ℕ → Type 0
BeginsPair b = (0xC2 ≤ b) × (b ≤ 0xDF)

-- the ranges of the first two bytes of a sequence that is longer
pub record IsFront (a b : ℕ) : Type 0 where
  pub first_least : 0xE0 ≤ a
  pub first_most : a ≤ 0xF4
  pub least : 0x80 ≤ b
  pub most : b ≤ 0xBF
  pub no_overlong_three : a ≡ 0xE0 → 0xA0 ≤ b
  pub no_surrogate : a ≡ 0xED → b ≤ 0x9F
  pub no_overlong_four : a ≡ 0xF0 → 0x90 ≤ b
  pub not_past : a ≡ 0xF4 → b ≤ 0x8F
