-- How many bits a binary value has that no box bounds, where a prefix tells its length. 'Properties Common to both Content and
-- Framing' (lengthKind prefixed).
use Rattle.std.specs.Prelude.{ℕ, zero, suc, ◌+◌, ◌*◌, length, Bool, Option, None, Some, Result, Ok, Err, if◌then◌else◌, is_some}
use Rattle.dfdl_forms.specs.declared.packed.PackedForm.{PackedForm}
use Rattle.dfdl_value.specs.declared.value.Value.{Value}
use Rattle.dfdl_value.specs.declared.value.Value.TheVariants as value
use Rattle.dfdl_packed.specs.Packed.{packed_writing}
use Rattle.dfdl_writings.specs.declared.fault.Unwritten.{Unwritten}
use Rattle.dfdl_writings.specs.declared.fault.Unwritten.TheVariants.{BinaryForm, PackedForm as InPackedForm}

-- so many bytes hold the number
abbrev pub fits_bytes : PackedForm → Value → ℕ → Bool
fits_bytes form value count = is_some (packed_writing (record form { nibbles = 2 * count }) value)

-- the first of so many counts of bytes, from one on, that hold the number
abbrev pub first_count : PackedForm → Value → ℕ → ℕ → Option ℕ
first_count form value zero count = None
first_count form value (suc more) count =
    if fits_bytes form value count then Some count else first_count form value more (count + 1)

-- the fewest whole bytes that hold a packed number: a field has no more than 19 of them
abbrev pub packed_bytes : PackedForm → Value → Option ℕ
packed_bytes form value = first_count form value 19 1

-- a count of bytes in bits
abbrev pub bits_of : Option ℕ → Result ℕ Unwritten
bits_of None = Err InPackedForm
bits_of (Some count) = Ok (8 * count)

-- the bits of a packed, BCD or IBM 4690 packed number without a box: those of the fewest whole bytes that hold it
abbrev pub packed_bits : PackedForm → Value → Result ℕ Unwritten
packed_bits form value = bits_of (packed_bytes form value)

-- the bits of a hexBinary without a box
abbrev pub octet_bits : Value → Result ℕ Unwritten
octet_bits (value.Bytes bytes) = Ok (8 * length bytes)
octet_bits _ = Err BinaryForm

-- the bits of a binary boolean without a box
abbrev pub truth_bits : ℕ
truth_bits = 32
