-- Runs of characters that have one byte each.
use Rattle.std.specs.Prelude.{◌≡◌, ◌<◌, ℕ, ◌+◌, Bool, false, nat_eq, List, length, slice_index}
use Rattle.dfdl_chars.specs.declared.decode.Chars.{Chars}
use Rattle.dfdl_chars.specs.declared.decode.Chars.TheVariants.{Char}
use Rattle.dfdl_forms.specs.declared.encoding.Encoding.{Encoding}
use Rattle.dfdl_chars.specs.Decoding.{Boxed, Decoded, char_of, decoded_at, no_look}

-- a character of one byte
abbrev pub is_single : Chars → Bool
is_single (Char c bits) = nat_eq bits 8
is_single _ = false

-- a character of one byte stands at byte k, and one look sees it
abbrev pub single_at : ℕ → ℕ → ℕ → Decoded
single_at code k looks = char_of code 1 (record { far = k + 1; looks = looks + 1 })

-- one after the other these are the characters that stand from byte k on, each of one byte: so many calls for a single
-- character would answer them, from the count of looks on
abbrev pub AreSingles : Encoding → Boxed → ℕ → ℕ → List ℕ → Type 0
AreSingles enc box k looks codes = (i : ℕ) → i < length codes
    → decoded_at enc box (k + i) (no_look (looks + i)) ≡ single_at (slice_index codes i) (k + i) (looks + i)
