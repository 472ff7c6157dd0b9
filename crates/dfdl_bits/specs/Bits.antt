-- The number of a range of bits of the data. 'Properties Common to both Content and Framing' (byteOrder,
-- bitOrder) and 'Simple Types' (binary numbers).
use Rattle.std.specs.Prelude.{◌≡◌, ◌<◌, ◌≤◌, ℕ, zero, suc, ◌+◌, ◌-◌, ◌*◌, ◌/◌, ◌%◌, ◌^◌, min, List, slice_index}
use Rattle.std.specs.Int.{bit_at}
use Rattle.dfdl_forms.specs.declared.order.BitOrder.{BitOrder}
use Rattle.dfdl_forms.specs.declared.order.BitOrder.TheVariants.{MostFirst, LeastFirst}
use Rattle.dfdl_forms.specs.declared.order.ByteOrder.{ByteOrder}
use Rattle.dfdl_forms.specs.declared.order.ByteOrder.TheVariants.{Big, Little}

-- bit k of the data has the weight 2 ^ place_of in its byte, byte k / 8
abbrev pub place_of : BitOrder → ℕ → ℕ
place_of MostFirst k = 7 - k % 8
place_of LeastFirst k = k % 8

-- bit k of the data, 0 or 1
abbrev pub data_bit : BitOrder → List ℕ → ℕ → ℕ
data_bit bits_by bytes k = bit_at (slice_index bytes (k / 8)) (place_of bits_by k)

-- f 0 + f 1 + .. + f (n - 1)
unfoldable pub sum_below : ℕ → (ℕ → ℕ) → ℕ
sum_below zero f = 0
sum_below (suc n) f = sum_below n f + f n

-- a range of len bits is cut into groups of eight from its front, of which the last may have fewer: how many
-- bits group g has
abbrev pub group_len : ℕ → ℕ → ℕ
group_len len g = min 8 (len - 8 * g)

-- Bit i of a range of len bits counts 2 ^ weight_of in the number of the range.
-- Least significant bit first, the bits rise in weight, whatever the byte order.
-- Most significant bit first, they fall in weight: over the whole range where the bytes are big endian, and
-- inside of each group of eight where they are little endian, where group g counts 2 ^ (8 * g) times.
abbrev pub weight_of : ByteOrder → BitOrder → ℕ → ℕ → ℕ
weight_of Big LeastFirst len i = i
weight_of Little LeastFirst len i = i
weight_of Big MostFirst len i = len - 1 - i
weight_of Little MostFirst len i = 8 * (i / 8) + (group_len len (i / 8) - 1 - i % 8)

-- the number of the len bits of the data that begin at a bit: the sum of the weights of those that are 1
unfoldable pub number_of : List ℕ → ℕ → ℕ → ByteOrder → BitOrder → ℕ
number_of bytes bit len bytes_by bits_by =
    sum_below len (λ i. data_bit bits_by bytes (bit + i) * 2 ^ weight_of bytes_by bits_by len i)

-- a byte with part in place of its len bits from the place low on
unfoldable pub patched : ℕ → ℕ → ℕ → ℕ → ℕ
patched byte low len part = (byte / 2 ^ (low + len) * 2 ^ len + part) * 2 ^ low + byte % 2 ^ low

-- the data keeps each bit outside of the len bits that begin at a bit
pub record KeepsOutside (bits_by : BitOrder) (old new : List ℕ) (bit len : ℕ) : Type 0 where
  pub before : (k : ℕ) → k < bit → data_bit bits_by new k ≡ data_bit bits_by old k
  pub after : (k : ℕ) → bit + len ≤ k → data_bit bits_by new k ≡ data_bit bits_by old k

-- the len bits that begin at a bit now have this number, and all other bits are as before
pub record Puts (bytes_by : ByteOrder) (bits_by : BitOrder) (old new : List ℕ) (bit len value : ℕ) : Type 0 where
  pub number : number_of new bit len bytes_by bits_by ≡ value
  pub kept : KeepsOutside bits_by old new bit len
