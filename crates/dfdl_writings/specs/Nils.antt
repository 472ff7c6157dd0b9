-- What nil is written as. 'DFDL Data Syntax Grammar' (nil representation).
use Rattle.std.specs.Prelude.{ℕ, ◌*◌, ◌/◌, List, [], ◌∷◌, length, Option, None, Some, Bool, nat_lt, false, Result, Ok, Err, if◌then◌else◌}
use Rattle.dfdl_chars.specs.Encodings.{encoded_of}
use Rattle.dfdl_forms.specs.declared.encoding.Encoding.{Encoding}
use Rattle.dfdl_forms.specs.declared.literals.Piece.{Piece}
use Rattle.dfdl_forms.specs.declared.text.Justify.TheVariants.{Left}
use Rattle.dfdl_forms.specs.declared.text.PadForm.{PadForm}
use Rattle.dfdl_terms.specs.declared.text.NilForm.{NilForm}
use Rattle.dfdl_terms.specs.declared.text.NilOctets.{NilOctets}
use Rattle.dfdl_terms.specs.declared.text.NilTexts.{NilTexts}
use Rattle.dfdl_terms.specs.declared.text.NilTexts.TheVariants.{Literals, Character, Byte}
use Rattle.dfdl_writings.specs.declared.fault.Unwritten.{Unwritten}
use Rattle.dfdl_writings.specs.declared.fault.Unwritten.TheVariants.{TooLong, NotInEncoding}
use Rattle.dfdl_writings.specs.declared.form.Room.{Room}
use Rattle.dfdl_writings.specs.declared.form.Room.TheVariants.{Bits, Characters, Open, Delimited}
use Rattle.dfdl_terms.specs.declared.writing.WritingForm.{WritingForm}
use Rattle.dfdl_writings.specs.declared.form.Written.{Written}
use Rattle.dfdl_writings.specs.Contents.{bits_of}
use Rattle.dfdl_writings.specs.Literals.{first_literal, literal_bytes, literal_count}
use Rattle.dfdl_writings.specs.Paddings.{filled, padded, repeated}

-- the box has fewer bits than so many bytes, or room for fewer characters
abbrev pub is_over : Room → ℕ → ℕ → Bool
is_over (Bits n) count size = nat_lt n (8 * size)
is_over (Characters n) count size = nat_lt n count
is_over Open count size = false
is_over Delimited count size = false

-- a literal of so many characters with these bytes, if they are there, padded and filled; it is never cut
abbrev pub nil_literal : NilForm → PadForm → Room → ℕ → ℕ → Option (List ℕ) → Result Written Unwritten
nil_literal nil pad room least count None = Err NotInEncoding
nil_literal nil pad room least count (Some bytes) =
    if is_over room count (length bytes) then Err TooLong else Ok (padded nil.encoding pad room least count bytes)

-- how many characters of so many bytes fill a room, or how many times a byte; without a box one
abbrev pub as_many : Room → ℕ → ℕ
as_many (Bits n) width = n / (8 * width)
as_many (Characters n) width = n
as_many Open width = 1
as_many Delimited width = 1

-- as many of a character with these bytes, if they are there, or of a byte, as the room holds, without pad characters
abbrev pub nil_character : NilForm → Room → Option (List ℕ) → Result Written Unwritten
nil_character nil room None = Err NotInEncoding
nil_character nil room (Some bytes) =
    let count = as_many room (length bytes) in Ok (filled nil.encoding room count (repeated count bytes))

-- the first literal of a list, padded and filled
abbrev pub by_literals : WritingForm → NilForm → PadForm → Room → List (List Piece) → Result Written Unwritten
by_literals writing nil pad room literals =
    let pieces = first_literal literals in
    nil_literal nil pad room writing.least (literal_count writing.new_line pieces) (literal_bytes nil.encoding writing.new_line pieces)

-- by what stands for nil
abbrev pub nil_by : WritingForm → NilForm → PadForm → Room → NilTexts → Result Written Unwritten
nil_by writing nil pad room (Literals literals) = by_literals writing nil pad room literals
nil_by writing nil pad room (Character c) = nil_character nil room (encoded_of nil.encoding c)
nil_by writing nil pad room (Byte b) = nil_character nil room (Some (b ∷ []))

-- What nil is written as: the first literal of its list, with pad characters and fill, or its character or byte as often as its room holds it.
abbrev pub nil_content : WritingForm → NilForm → PadForm → Room → Result Written Unwritten
nil_content writing nil pad room = nil_by writing nil pad room nil.texts

-- what is read as nil in a box of bytes is no text, and has no pad characters
abbrev pub no_pad : PadForm
no_pad = record { justify = Left; pad = None; trim = None; truncate = false; keeps_zero = false }

-- what nil is written as in a box of bytes
abbrev pub nil_octets : WritingForm → NilOctets → Result Written Unwritten
nil_octets writing form = nil_content writing form.nil no_pad (Bits form.octets.bits)

-- the bytes of as many of a character or a byte as the room holds, if the character has bytes
abbrev pub characters_in : Room → Option (List ℕ) → Option (List ℕ)
characters_in room None = None
characters_in room (Some bytes) = Some (repeated (as_many room (length bytes)) bytes)

-- the bytes of nil without pad characters, if the encoding has its characters
abbrev pub nil_bytes : WritingForm → Encoding → Room → NilTexts → Option (List ℕ)
nil_bytes writing encoding room (Literals literals) = literal_bytes encoding writing.new_line (first_literal literals)
nil_bytes writing encoding room (Character c) = characters_in room (encoded_of encoding c)
nil_bytes writing encoding room (Byte b) = characters_in room (Some (b ∷ []))

-- the length of nil: how many bits it has without pad characters
abbrev pub nil_bits : WritingForm → NilForm → Room → Result ℕ Unwritten
nil_bits writing nil room = bits_of (nil_bytes writing nil.encoding room nil.texts)
