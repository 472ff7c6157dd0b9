-- What stands at a place of the data in an encoding. The data is known by looks at its bytes alone, so the answer may also be
-- that a byte has not come yet.
use Rattle.std.specs.Prelude.{◌≡◌, ℕ, zero, suc, ◌+◌, ◌-◌, ◌*◌, ◌%◌, ◌≤◌, Bool, ◌&&◌, nat_lt, nat_le, if◌then◌else◌, List, [], ◌∷◌, ◌++◌, length}
use Rattle.dfdl_bits.specs.Window.{Held, seen_at}
use Rattle.dfdl_bits.specs.declared.window.Seen.{Seen}
use Rattle.dfdl_bits.specs.declared.window.Seen.TheVariants.{Byte, End as NoByte, NotYet as NotSeen, Over as PastWindow}
use Rattle.dfdl_chars.specs.declared.decode.Chars.{Chars}
use Rattle.dfdl_chars.specs.declared.decode.Chars.TheVariants.{Char, Bad, End, NotYet, Over}
use Rattle.dfdl_forms.specs.declared.encoding.Encoding.{Encoding}
use Rattle.dfdl_forms.specs.declared.encoding.Encoding.TheVariants.{Utf8, UsAscii, Iso88591, Utf16Be, Utf16Le}
use Rattle.dfdl_chars.specs.Sequences.{is_sequence, is_begun, code_of}

-- the data as looks see it, in a box that ends at bit `stop`
pub record Boxed : Type 0 where
  pub look : ℕ → Seen
  pub stop : ℕ

-- what a window holds of the data, in a box
abbrev pub in_box : Held → ℕ → Boxed
in_box held stop = record { look = seen_at held; stop = stop }

-- how far the looks have gone: one more than the last byte of which a look was not Over, or 0; and how many looks there were
pub record Walk : Type 0 where
  pub far : ℕ
  pub looks : ℕ

-- what was found, and how far the looks have gone
pub record Decoded : Type 0 where
  pub chars : Chars
  pub walk : Walk

-- what stands at a place, and where the walk is behind it
abbrev pub found : Chars → Walk → Decoded
found chars walk = record { chars = chars; walk = walk }

-- one more look, at byte k
abbrev pub looked : ℕ → Walk → Walk
looked k walk = record { far = k + 1; looks = walk.looks + 1 }

-- one more look, which was Over
abbrev pub looked_past : Walk → Walk
looked_past walk = record { far = walk.far; looks = walk.looks + 1 }

-- what follows from a look at byte k: `at_end` where the data ends before it, and else `go` of the byte
abbrev pub after_look : Seen → ℕ → Walk → Chars → (ℕ → Walk → Decoded) → Decoded
after_look (Byte b) k walk at_end go = go b (looked k walk)
after_look NoByte k walk at_end go = found at_end (looked k walk)
after_look NotSeen k walk at_end go = found NotYet (looked k walk)
after_look PastWindow k walk at_end go = found Over (looked_past walk)

-- the same in a box: a byte with a bit at or past the end of the box is the end, without a look
abbrev pub at_byte : Boxed → ℕ → Walk → Chars → (ℕ → Walk → Decoded) → Decoded
at_byte box k walk at_end go =
    if nat_le (8 * k + 8) box.stop then after_look (box.look k) k walk at_end go else found at_end walk

-- a character or a bad unit of so many bytes
abbrev pub char_of : ℕ → ℕ → Walk → Decoded
char_of c bytes walk = found (Char c (8 * bytes)) walk

-- a bad unit of so many bits, where the walk is behind it
abbrev pub bad_of : ℕ → Walk → Decoded
bad_of bytes walk = found (Bad (8 * bytes)) walk

-- an encoding of one byte a character, which has those below `limit`
abbrev pub narrow_at : ℕ → Boxed → ℕ → Walk → Decoded
narrow_at limit box k walk = at_byte box k walk End (λ b w. if nat_lt b limit then char_of b 1 w else bad_of 1 w)

-- what the end of the data is behind some bytes of a sequence
abbrev pub end_after : List ℕ → Chars
end_after [] = End
end_after (b ∷ bs) = Bad 8

-- UTF-8, where these bytes were seen at byte k: while they are the beginning of a sequence that is longer, one more is looked at.
-- A sequence has at most 4 bytes, so `more` of 4 is enough at none.
abbrev pub utf8_after : ℕ → Boxed → ℕ → List ℕ → Walk → Decoded
utf8_after zero box k bytes walk = if is_sequence bytes then char_of (code_of bytes) (length bytes) walk else bad_of 1 walk
utf8_after (suc more) box k bytes walk =
    if is_sequence bytes then char_of (code_of bytes) (length bytes) walk
    else if is_begun bytes then at_byte box (k + length bytes) walk (end_after bytes) (λ b w. utf8_after more box k (bytes ++ b ∷ []) w)
    else bad_of 1 walk

-- the units of UTF-16 that begin and end a pair
abbrev pub is_high : ℕ → Bool
is_high unit = nat_le 0xD800 unit && nat_lt unit 0xDC00

-- a low surrogate
abbrev pub is_low : ℕ → Bool
is_low unit = nat_le 0xDC00 unit && nat_lt unit 0xE000

-- the character of a pair
abbrev pub pair_code : ℕ → ℕ → ℕ
pair_code high low = 0x10000 + (high - 0xD800) * 1024 + (low - 0xDC00)

-- The unit at byte k, of which each order joins the bytes in its way. The data or the box may end before it or within it.
abbrev pub at_unit : (ℕ → ℕ → ℕ) → Boxed → ℕ → Walk → Chars × Chars → (ℕ → Walk → Decoded) → Decoded
at_unit join box k walk ends go =
    at_byte box k walk ends.0 (λ a w. at_byte box (k + 1) w ends.1 (λ b v. go (join a b) v))

-- UTF-16: a second unit is looked at behind a high surrogate alone
abbrev pub utf16_second : ℕ → ℕ → Walk → Decoded
utf16_second high unit walk = if is_low unit then char_of (pair_code high unit) 4 walk else bad_of 2 walk

-- the character whose first unit is this one
abbrev pub utf16_first : (ℕ → ℕ → ℕ) → Boxed → ℕ → ℕ → Walk → Decoded
utf16_first join box k unit walk =
    if is_high unit then at_unit join box (k + 2) walk (Bad 16, Bad 16) (λ second w. utf16_second unit second w)
    else if is_low unit then bad_of 2 walk
    else char_of unit 2 walk

-- what stands at a place of UTF-16, where two bytes make a unit so
abbrev pub utf16_at : (ℕ → ℕ → ℕ) → Boxed → ℕ → Walk → Decoded
utf16_at join box k walk = at_unit join box k walk (End, Bad 8) (λ unit w. utf16_first join box k unit w)

-- the unit of two bytes, the first of which is the more significant
abbrev pub big_unit : ℕ → ℕ → ℕ
big_unit a b = a * 256 + b

-- the unit of two bytes, the second of which is the more significant
abbrev pub little_unit : ℕ → ℕ → ℕ
little_unit a b = b * 256 + a

-- what stands at byte k of the data in a box
abbrev pub decoded_at : Encoding → Boxed → ℕ → Walk → Decoded
decoded_at Utf8 box k walk = utf8_after 4 box k [] walk
decoded_at UsAscii box k walk = narrow_at 128 box k walk
decoded_at Iso88591 box k walk = narrow_at 256 box k walk
decoded_at Utf16Be box k walk = utf16_at big_unit box k walk
decoded_at Utf16Le box k walk = utf16_at little_unit box k walk

-- no looks yet, after so many before
abbrev pub no_look : ℕ → Walk
no_look steps = record { far = 0; looks = steps }

-- the place behind a character or a bad unit is a whole byte again, at most four on
abbrev pub HasWholeBytes : Chars → Type 0
HasWholeBytes (Char c bits) = (bits % 8 ≡ 0) × (8 ≤ bits) × (bits ≤ 32)
HasWholeBytes (Bad bits) = (bits % 8 ≡ 0) × (8 ≤ bits) × (bits ≤ 16)
HasWholeBytes _ = Unit {0}
