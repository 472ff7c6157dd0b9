-- The bytes of a run of bits. 'Properties Common to both Content and Framing' (byteOrder, bitOrder).
use Rattle.std.specs.Prelude.{ℕ, ◌+◌, ◌*◌, ◌/◌, ◌%◌, ◌^◌, nat_lt, List, map, slice_index, if◌then◌else◌}
use Rattle.std.specs.Int.{bit_at}
use Rattle.std.specs.List.{range_with_len}
use Rattle.dfdl_bits.specs.Bits.{sum_below, weight_of}
use Rattle.dfdl_forms.specs.declared.order.BitOrder.{BitOrder}
use Rattle.dfdl_forms.specs.declared.order.ByteOrder.{ByteOrder}
use Rattle.dfdl_forms.specs.declared.order.ByteOrder.TheVariants.{Big}
use Rattle.dfdl_writings.specs.declared.form.Written.{Written}

-- bit i of a field of so many bits that has this number: the bit of the number at its weight
abbrev pub number_bit : ByteOrder → BitOrder → ℕ → ℕ → ℕ → ℕ
number_bit bytes_by bits_by len number i = bit_at number (weight_of bytes_by bits_by len i)

-- bit i of a field that has these nibbles, of which each has four
abbrev pub nibble_bit : BitOrder → List ℕ → ℕ → ℕ
nibble_bit bits_by nibbles i = number_bit Big bits_by 4 (slice_index nibbles (i / 4)) (i % 4)

-- bit i of so many, and zeros behind them
abbrev pub bit_or_zero : ℕ → (ℕ → ℕ) → ℕ → ℕ
bit_or_zero len bit i = if nat_lt i len then bit i else 0

-- byte j of so many bits
abbrev pub byte_of : BitOrder → ℕ → (ℕ → ℕ) → ℕ → ℕ
byte_of order len bit j = sum_below 8 (λ i. bit_or_zero len bit (8 * j + i) * 2 ^ weight_of Big order 8 i)

-- as few bytes as hold so many bits, with these bits and zeros behind them
unfoldable pub bytes_of : BitOrder → ℕ → (ℕ → ℕ) → List ℕ
bytes_of order len bit = map (byte_of order len bit) (range_with_len 0 ((len + 7) / 8))

-- so many bits, and no fill
abbrev pub field : BitOrder → ℕ → (ℕ → ℕ) → Written
field order len bit = record { bytes = bytes_of order len bit; bits = len; fill = 0 }
