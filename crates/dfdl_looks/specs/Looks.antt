-- What a look at a byte of whole data sees, and which windows hold a part of such data.
use Rattle.std.specs.Prelude.{◌≡◌, ℕ, ◌+◌, ◌-◌, ◌<◌, ◌≤◌, true, List, length, slice_index, nat_lt, nat_le, if◌then◌else◌}
use Rattle.dfdl_bits.specs.Window.{Held, end_of}
use Rattle.dfdl_bits.specs.declared.window.Seen.{Seen}
use Rattle.dfdl_bits.specs.declared.window.Seen.TheVariants.{Byte, End, Over}

-- what a look at byte k of whole data sees, where the first byte that is still needed is the anchor and no byte is looked
-- at that is size bytes or more behind it
abbrev pub seen_in : List ℕ → ℕ → ℕ → ℕ → Seen
seen_in bytes size anchor k =
    if nat_le size (k - anchor) then Over
    else (if nat_lt k (length bytes) then Byte (slice_index bytes k) else End)

-- The bytes that are held are those of the data at their places, and where the data's end was told, the data ends there.
pub record Agrees (held : Held) (whole : List ℕ) : Type 0 where
  pub bytes : (i : ℕ) → i < length held.bytes → slice_index held.bytes i ≡ slice_index whole (held.base + i)
  pub within : end_of held ≤ length whole
  pub all : held.ended ≡ true → length whole ≡ end_of held
