-- Sets of bytes.
use Rattle.std.specs.Prelude.{ℕ, ◌/◌, ◌%◌, ◌^◌, Bool, nat_eq, slice_index}
use Rattle.dfdl_bits.specs.declared.byte_set.ByteSet.{ByteSet}

-- the set has the byte: of four words of 64 bits, the bit of the byte's number is 1
unfoldable pub has_byte : ByteSet → ℕ → Bool
has_byte set byte = nat_eq (slice_index set.words (byte / 64) / 2 ^ (byte % 64) % 2) 1
