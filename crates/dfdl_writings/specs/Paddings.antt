-- The bytes of a text with those of pad characters around it, and the fill behind them. 'Simple Types' (textPadKind,
-- textOutputMinLength) and 'Properties Common to both Content and Framing' (lengthUnits).
use Rattle.std.specs.Prelude.{ℕ, zero, suc, ◌+◌, ◌-◌, ◌*◌, ◌/◌, List, [], ◌++◌, length, Option, None, Some}
use Rattle.dfdl_chars.specs.Encodings.{encoded_of}
use Rattle.dfdl_forms.specs.declared.encoding.Encoding.{Encoding}
use Rattle.dfdl_forms.specs.declared.text.Justify.{Justify}
use Rattle.dfdl_forms.specs.declared.text.PadForm.{PadForm}
use Rattle.dfdl_text_string.specs.Padding.{missing_before}
use Rattle.dfdl_writings.specs.declared.form.Room.{Room}
use Rattle.dfdl_writings.specs.declared.form.Room.TheVariants.{Bits, Characters, Open, Delimited}
use Rattle.dfdl_writings.specs.declared.form.Written.{Written}
use Rattle.dfdl_writings.specs.Rooms.{unit_bits}

-- the bytes of the pad character, if there is one that the encoding has
abbrev pub pad_bytes : Encoding → Option ℕ → Option (List ℕ)
pad_bytes encoding None = None
pad_bytes encoding (Some c) = encoded_of encoding c

-- the same bytes so many times
unfoldable pub repeated : ℕ → List ℕ → List ℕ
repeated zero bytes = []
repeated (suc n) bytes = repeated n bytes ++ bytes

-- how many pad characters of so many bytes are missing around a text of so many characters and bytes: as many whole ones as its box
-- has room for, and without a box as many as its least number of characters asks for
abbrev pub missing : Room → ℕ → ℕ → ℕ → ℕ → ℕ
missing (Bits n) least width count size = (n - 8 * size) / (8 * width)
missing (Characters n) least width count size = n - count
missing Open least width count size = least - count
missing Delimited least width count size = least - count

-- so many pad characters around the bytes of a text
abbrev pub surrounded : Justify → List ℕ → ℕ → List ℕ → List ℕ
surrounded justify pad count bytes =
    let before = missing_before justify count in repeated before pad ++ (bytes ++ repeated (count - before) pad)

-- how many bits of fill follow so many characters and bytes: the rest of a box of bits, and one unit of the encoding for each character
-- that is missing in a box of characters
abbrev pub fill_behind : Encoding → Room → ℕ → ℕ → ℕ
fill_behind encoding (Bits n) count size = n - 8 * size
fill_behind encoding (Characters n) count size = (n - count) * unit_bits encoding
fill_behind encoding Open count size = 0
fill_behind encoding Delimited count size = 0

-- so many characters with these bytes, and fill behind them
abbrev pub filled : Encoding → Room → ℕ → List ℕ → Written
filled encoding room count bytes =
    record { bytes = bytes; bits = 8 * length bytes; fill = fill_behind encoding room count (length bytes) }

-- the same with pad characters around them, where there is a pad character
abbrev pub padded_with : Option (List ℕ) → Encoding → Justify → Room → ℕ → ℕ → List ℕ → Written
padded_with None encoding justify room least count bytes = filled encoding room count bytes
padded_with (Some pad) encoding justify room least count bytes =
    let more = missing room least (length pad) count (length bytes) in
    filled encoding room (count + more) (surrounded justify pad more bytes)

-- so many characters with these bytes, padded and filled in a room
abbrev pub padded : Encoding → PadForm → Room → ℕ → ℕ → List ℕ → Written
padded encoding pad room least count bytes =
    padded_with (pad_bytes encoding pad.pad) encoding pad.justify room least count bytes
