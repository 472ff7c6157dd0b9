-- The bits that a binary value is written as. 'Simple Types' (binary number representation, binary booleans, hexBinary).
use Rattle.std.specs.Prelude.{ℕ, ◌-◌, ◌*◌, nat_le, List, length, Option, None, Some, Result, Ok, Err, if◌then◌else◌}
use Rattle.dfdl_forms.specs.declared.binary.BitTruthForm.{BitTruthForm}
use Rattle.dfdl_forms.specs.declared.binary.IntForm.{IntForm}
use Rattle.dfdl_forms.specs.declared.order.BitOrder.{BitOrder}
use Rattle.dfdl_forms.specs.declared.order.ByteOrder.{ByteOrder}
use Rattle.dfdl_forms.specs.declared.packed.PackedForm.{PackedForm}
use Rattle.dfdl_value.specs.declared.value.Value.{Value}
use Rattle.dfdl_value.specs.declared.value.Value.TheVariants as value
use Rattle.dfdl_int_binary.specs.Integers.{integer_writing}
use Rattle.dfdl_int_binary.specs.Truths.{truth_writing}
use Rattle.dfdl_packed.specs.Packed.{packed_writing}
use Rattle.dfdl_terms.specs.declared.text.OctetForm.{OctetForm}
use Rattle.dfdl_writings.specs.declared.fault.Unwritten.{Unwritten}
use Rattle.dfdl_writings.specs.declared.fault.Unwritten.TheVariants.{BinaryForm, PackedForm as InPackedForm, TooLong, Boolean}
use Rattle.dfdl_writings.specs.declared.form.Written.{Written}
use Rattle.dfdl_writings.specs.Bits.{field, nibble_bit, number_bit}

-- a field of so many bits that has a number, if there is one
abbrev pub number_field : Unwritten → ByteOrder → BitOrder → ℕ → Option ℕ → Result Written Unwritten
number_field cause bytes_by bits_by len None = Err cause
number_field cause bytes_by bits_by len (Some number) = Ok (field bits_by len (number_bit bytes_by bits_by len number))

-- a field that has so many nibbles, if there are any
abbrev pub nibble_field : BitOrder → ℕ → Option (List ℕ) → Result Written Unwritten
nibble_field bits_by count None = Err InPackedForm
nibble_field bits_by count (Some nibbles) = Ok (field bits_by (4 * count) (nibble_bit bits_by nibbles))

-- a binary integer or decimal
abbrev pub integer : IntForm → Value → Result Written Unwritten
integer form value = number_field BinaryForm form.bytes_by form.bits_by form.bits (integer_writing form value)

-- a packed, BCD or IBM 4690 packed number
abbrev pub packed : PackedForm → Value → Result Written Unwritten
packed form value = nibble_field form.bits_by form.nibbles (packed_writing form value)

-- the number that a boolean is written as, if the field can hold it
abbrev pub truth_number : BitTruthForm → Value → Option ℕ
truth_number form (value.Truth truth) = truth_writing form truth
truth_number form _ = None

-- a binary boolean
abbrev pub truth : BitTruthForm → Value → Result Written Unwritten
truth form value = number_field Boolean form.bytes_by form.bits_by form.bits (truth_number form value)

-- bytes in a box of so many bits, and fill up to its end
abbrev pub octets_in : ℕ → List ℕ → Result Written Unwritten
octets_in bits bytes =
    if nat_le (8 * length bytes) bits
    then Ok (record { bytes = bytes; bits = 8 * length bytes; fill = bits - 8 * length bytes })
    else Err TooLong

-- the bytes of a hexBinary in its box
abbrev pub octets : OctetForm → Value → Result Written Unwritten
octets form (value.Bytes bytes) = octets_in form.bits bytes
octets form _ = Err BinaryForm
