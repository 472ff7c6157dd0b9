-- UTF-8, read byte by byte: what the bytes of a character that may not be whole yet are.
use Rattle.std.specs.Prelude.{ℕ, ◌+◌, ◌-◌, ◌*◌, ◌==◌, ◌&&◌, ◌||◌, Bool, not, nat_le, nat_lt, min}
use Rattle.std.specs.Prelude.{max, List, [], ◌∷◌, if◌then◌else◌}
use Rattle.dfdl_layers.specs.Bytes.{Seen, Whole, Part, Bad}

-- a byte that goes on in a sequence
abbrev pub is_tail : ℕ → Bool
is_tail b = nat_le 0x80 b && nat_le b 0xBF

-- a byte that begins a sequence of several
abbrev pub is_lead : ℕ → Bool
is_lead a = nat_le 0xC2 a && nat_le a 0xF4

-- the two bytes begin a sequence: the table 'Well-Formed UTF-8 Byte Sequences' of the Unicode
-- Standard, with no overlong form, no surrogate, nothing past U+10FFFF
abbrev pub is_pair : ℕ → ℕ → Bool
is_pair a b =
    is_lead a
    && (is_tail b && ((not (a == 0xE0) || nat_le 0xA0 b) && ((not (a == 0xED) || nat_le b 0x9F)
    && ((not (a == 0xF0) || nat_le 0x90 b) && (not (a == 0xF4) || nat_le b 0x8F)))))

-- what a sequence of one, two, three and four bytes is worth
abbrev pub code_of_two : ℕ → ℕ → ℕ
code_of_two a b = (a - 0xC0) * 64 + (b - 0x80)

-- the code point of three bytes
abbrev pub code_of_three : ℕ → ℕ → ℕ → ℕ
code_of_three a b c = ((a - 0xE0) * 64 + (b - 0x80)) * 64 + (c - 0x80)

-- the code point of four bytes
abbrev pub code_of_four : ℕ → ℕ → ℕ → ℕ → ℕ
code_of_four a b c d = (((a - 0xF0) * 64 + (b - 0x80)) * 64 + (c - 0x80)) * 64 + (d - 0x80)

-- what the bytes are: a character, a part of one, or no front of any
unfoldable pub see : List ℕ → Seen
see (a ∷ []) = if nat_lt a 0x80 then Whole a else (if is_lead a then Part else Bad)
see (a ∷ b ∷ []) =
    if is_pair a b then (if nat_lt a 0xE0 then Whole (code_of_two a b) else Part) else Bad
see (a ∷ b ∷ c ∷ []) =
    if nat_le 0xE0 a && (is_pair a b && is_tail c)
    then (if nat_lt a 0xF0 then Whole (code_of_three a b c) else Part) else Bad
see (a ∷ b ∷ c ∷ d ∷ []) =
    if nat_le 0xF0 a && (is_pair a b && (is_tail c && is_tail d)) then Whole (code_of_four a b c d)
    else Bad
see _ = Bad

-- the least and the greatest code of the characters that begin with these bytes, where they are a
-- part of one
unfoldable pub low_of : List ℕ → ℕ
low_of (a ∷ []) =
    if nat_lt a 0xE0 then (a - 0xC0) * 64
    else (if nat_lt a 0xF0 then max 0x800 ((a - 0xE0) * 4096)
    else max 0x1_0000 ((a - 0xF0) * 26_2144))
low_of (a ∷ b ∷ []) = if nat_lt a 0xF0 then code_of_three a b 0x80 else code_of_four a b 0x80 0x80
low_of (a ∷ b ∷ c ∷ []) = code_of_four a b c 0x80
low_of _ = 0

-- the greatest code point of the characters that begin with these bytes
unfoldable pub high_of : List ℕ → ℕ
high_of (a ∷ []) =
    if nat_lt a 0xE0 then (a - 0xC0) * 64 + 63
    else (if nat_lt a 0xF0 then (if a == 0xED then 0xD7FF else (a - 0xE0) * 4096 + 4095)
    else min 0x10_FFFF ((a - 0xF0) * 26_2144 + 26_2143))
high_of (a ∷ b ∷ []) = if nat_lt a 0xF0 then code_of_three a b 0xBF else code_of_four a b 0xBF 0xBF
high_of (a ∷ b ∷ c ∷ []) = code_of_four a b c 0xBF
high_of _ = 0
