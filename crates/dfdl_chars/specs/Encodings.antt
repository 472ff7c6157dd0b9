-- The bytes of a character in an encoding.
use Rattle.std.specs.Prelude.{ℕ, ◌/◌, ◌%◌, nat_lt, if◌then◌else◌, List, [], ◌∷◌, ◌++◌, length, Option, Some, None, encode_utf8}
use Rattle.std.specs.Char.Escape.{encode_utf16}
use Rattle.std.specs.List.{flat_map}
use Rattle.dfdl_forms.specs.declared.order.ByteOrder.{ByteOrder}
use Rattle.dfdl_forms.specs.declared.order.ByteOrder.TheVariants.{Big, Little}
use Rattle.dfdl_forms.specs.declared.encoding.Encoding.{Encoding}
use Rattle.dfdl_forms.specs.declared.encoding.Encoding.TheVariants.{Utf8, UsAscii, Iso88591, Utf16Be, Utf16Le}

-- the two bytes of a unit of UTF-16
abbrev pub big_bytes : ℕ → List ℕ
big_bytes unit = unit / 256 ∷ unit % 256 ∷ []

-- the bytes of a unit, the less significant first
abbrev pub little_bytes : ℕ → List ℕ
little_bytes unit = unit % 256 ∷ unit / 256 ∷ []

-- the bytes of a unit in the order
abbrev pub unit_bytes_of : ByteOrder → ℕ → List ℕ
unit_bytes_of Big = big_bytes
unit_bytes_of Little = little_bytes

-- the bytes of the character, if the encoding has it
abbrev pub encoded_of : Encoding → ℕ → Option (List ℕ)
encoded_of Utf8 c = Some (encode_utf8 c)
encoded_of UsAscii c = if nat_lt c 128 then Some (c ∷ []) else None
encoded_of Iso88591 c = if nat_lt c 256 then Some (c ∷ []) else None
encoded_of Utf16Be c = Some (flat_map (unit_bytes_of Big) (encode_utf16 c))
encoded_of Utf16Le c = Some (flat_map (unit_bytes_of Little) (encode_utf16 c))

-- the bytes of both, one after the other, where both are there
abbrev pub joined : Option (List ℕ) → Option (List ℕ) → Option (List ℕ)
joined (Some xs) (Some ys) = Some (xs ++ ys)
joined (Some xs) None = None
joined None ys = None

-- the bytes of characters one after the other, if the encoding has each of them
abbrev pub encoded_text : Encoding → List ℕ → Option (List ℕ)
encoded_text enc [] = Some []
encoded_text enc (c ∷ cs) = joined (encoded_of enc c) (encoded_text enc cs)

-- how many bytes there are, if there are any
abbrev pub count_of : Option (List ℕ) → ℕ
count_of None = 0
count_of (Some bytes) = length bytes

-- how many bytes a character has in an encoding
abbrev pub width_in : Encoding → ℕ → ℕ
width_in encoding c = count_of (encoded_of encoding c)
