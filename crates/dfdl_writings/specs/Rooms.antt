-- The room that the characters of a content have. 'Properties Common to both Content and Framing' (lengthUnits, encoding).
use Rattle.std.specs.Prelude.{ℕ, ◌≤◌}
use Rattle.dfdl_forms.specs.declared.encoding.Encoding.{Encoding}
use Rattle.dfdl_forms.specs.declared.encoding.Encoding.TheVariants.{Utf8, UsAscii, Iso88591, Utf16Be, Utf16Le}
use Rattle.dfdl_terms.specs.Rows.{most_length}
use Rattle.dfdl_terms.specs.declared.text.TextSize.{TextSize}
use Rattle.dfdl_terms.specs.declared.text.TextSize.TheVariants as size
use Rattle.dfdl_writings.specs.declared.form.Room.{Room}
use Rattle.dfdl_writings.specs.declared.form.Room.TheVariants.{Bits, Characters, Open, Delimited}

-- how many bits one unit of an encoding has: a digit is one unit in each encoding
abbrev pub unit_bits : Encoding → ℕ
unit_bits Utf8 = 8
unit_bits UsAscii = 8
unit_bits Iso88591 = 8
unit_bits Utf16Be = 16
unit_bits Utf16Le = 16

-- a box is no longer than the greatest length
abbrev pub IsRoom : Room → Type 0
IsRoom (Bits n) = n ≤ most_length
IsRoom (Characters n) = n ≤ most_length
IsRoom Open = Unit {0}
IsRoom Delimited = Unit {0}

-- the room of a content of this size
abbrev pub room_of : TextSize → Room
room_of (size.Bits n) = Bits n
room_of (size.Characters n) = Characters n
room_of (size.Delimited scan) = Delimited
