-- What a window holds of the data, and what a look into it sees. Profile: a parser reads the data by such looks alone.
use Rattle.std.specs.Prelude.{ℕ, ◌+◌, ◌-◌, Bool, List, ◌++◌, length, take, drop, min, slice_index, nat_lt, nat_le, if◌then◌else◌}
use Rattle.dfdl_bits.specs.declared.window.Seen.{Seen}
use Rattle.dfdl_bits.specs.declared.window.Seen.TheVariants.{Byte, End, NotYet, Over}

-- The bytes of the data from the byte base on that have come and are still held, of which a look sees the first size; and
-- whether it was told that the data ends behind them.
pub record Held : Type 0 where
  pub bytes : List ℕ
  pub base : ℕ
  pub size : ℕ
  pub ended : Bool

-- the first byte of the data that hasn't come
abbrev pub end_of : Held → ℕ
end_of held = held.base + length held.bytes

-- how many more bytes there is room for
abbrev pub room_of : Held → ℕ
room_of held = held.size - length held.bytes

-- with bytes that come next
abbrev pub with_more : Held → List ℕ → Held
with_more held piece = record held { bytes = held.bytes ++ piece }

-- without the bytes of the data before byte k
abbrev pub from_byte : Held → ℕ → Held
from_byte held k = record held { bytes = drop (k - held.base) held.bytes; base = k }

-- without byte k of the data and those behind it
abbrev pub up_to_byte : Held → ℕ → Held
up_to_byte held k = record held { bytes = take (k - held.base) held.bytes }

-- what a look at byte k of the data sees, for a k that is no byte before the base
abbrev pub seen_at : Held → ℕ → Seen
seen_at held k =
    let place : ℕ = k - held.base in
    if nat_le held.size place then Over
    else (if nat_lt place (length held.bytes) then Byte (slice_index held.bytes place)
    else (if held.ended then End else NotYet))

-- the bytes that a look sees from byte k of the data on, at most so many, for a k that is no byte before the base
abbrev pub run_at : Held → ℕ → ℕ → List ℕ
run_at held k most = take (min most (held.size - (k - held.base))) (drop (k - held.base) held.bytes)
