-- What a value is written as in bits, by the primitive of its row. 'Simple Types' (binary representation).
use Rattle.std.specs.Prelude.{ℕ, ◌*◌, Result, Ok, Err}
use Rattle.dfdl_forms.specs.Binary.{most_bits}
use Rattle.dfdl_forms.specs.Types.{form_of}
use Rattle.dfdl_value.specs.declared.value.Value.{Value}
use Rattle.dfdl_terms.specs.declared.row.Primitive.{Primitive}
use Rattle.dfdl_terms.specs.declared.row.Primitive.TheVariants.{Integer, Packed, Truth, Octets, Text, NilOctets, Default, NilValues, Pattern}
use Rattle.dfdl_writings.specs.declared.fault.Unwritten.{Unwritten}
use Rattle.dfdl_writings.specs.declared.fault.Unwritten.TheVariants.{BinaryForm}
use Rattle.dfdl_writings.specs.declared.form.Written.{Written}
use Rattle.dfdl_writings.specs.Fields.{integer, octets, packed, truth}
use Rattle.dfdl_writings.specs.Lengths.{octet_bits, packed_bits, truth_bits}

-- the bits of a value; no value is written in bits by a primitive of another kind
abbrev pub binary : Primitive → Value → Result Written Unwritten
binary (Integer form) value = integer form value
binary (Packed form) value = packed form value
binary (Truth form) value = truth form value
binary (Octets form) value = octets form value
binary (Text form) value = Err BinaryForm
binary (NilOctets form) value = Err BinaryForm
binary (Default form) value = Err BinaryForm
binary (NilValues form) value = Err BinaryForm
binary (Pattern form) value = Err BinaryForm

-- how many bits a value has that no box bounds: those of its type, 128 for a decimal and 32 for a boolean, the fewest whole bytes that
-- hold a packed number, and the bytes of a hexBinary
abbrev pub binary_bits : Primitive → Value → Result ℕ Unwritten
binary_bits (Integer form) value = Ok (most_bits (form_of form.kind))
binary_bits (Packed form) value = packed_bits form value
binary_bits (Truth form) value = Ok truth_bits
binary_bits (Octets form) value = octet_bits value
binary_bits (Text form) value = Err BinaryForm
binary_bits (NilOctets form) value = Err BinaryForm
binary_bits (Default form) value = Err BinaryForm
binary_bits (NilValues form) value = Err BinaryForm
binary_bits (Pattern form) value = Err BinaryForm

-- how many bits the box of a primitive has
abbrev pub box_bits : Primitive → ℕ
box_bits (Integer form) = form.bits
box_bits (Packed form) = 4 * form.nibbles
box_bits (Truth form) = form.bits
box_bits (Octets form) = form.bits
box_bits (Text form) = 0
box_bits (NilOctets form) = form.octets.bits
box_bits (Default form) = 0
box_bits (NilValues form) = 0
box_bits (Pattern form) = 0
