-- What is kept of the characters of a value in the room that they have. 'Simple Types' (truncateSpecifiedLengthString).
use Rattle.std.specs.Prelude.{ℕ, suc, ◌-◌, ◌*◌, Bool, false, nat_le, List, [], ◌∷◌, length, take, drop, reverse, Result, Ok, Err, if◌then◌else◌}
use Rattle.dfdl_chars.specs.Encodings.{width_in}
use Rattle.dfdl_forms.specs.declared.encoding.Encoding.{Encoding}
use Rattle.dfdl_forms.specs.declared.text.Justify.{Justify}
use Rattle.dfdl_forms.specs.declared.text.Justify.TheVariants.{Left, Right, Center}
use Rattle.dfdl_forms.specs.declared.text.PadForm.{PadForm}
use Rattle.dfdl_text_string.specs.Padding.{cut_from}
use Rattle.dfdl_terms.specs.declared.text.TextContent.{TextContent}
use Rattle.dfdl_terms.specs.declared.text.TextContent.TheVariants.{Plain, Octets, Number, Zoned, Truth, Nil}
use Rattle.dfdl_terms.specs.declared.text.TextForm.{TextForm}
use Rattle.dfdl_writings.specs.declared.fault.Unwritten.{Unwritten}
use Rattle.dfdl_writings.specs.declared.fault.Unwritten.TheVariants.{TextForm as NoTextForm, TooLong, Boolean}
use Rattle.dfdl_writings.specs.declared.form.Room.{Room}
use Rattle.dfdl_writings.specs.declared.form.Room.TheVariants.{Bits, Characters, Open, Delimited}

-- how many characters fit in so many bits, from the first one on
unfoldable pub front_count : Encoding → ℕ → List ℕ → ℕ
front_count encoding bits [] = 0
front_count encoding bits (c ∷ cs) =
    if nat_le (8 * width_in encoding c) bits then suc (front_count encoding (bits - 8 * width_in encoding c) cs) else 0

-- the characters in the order in which they are kept: of a text at the right the last ones are (profile)
abbrev pub from_side : Justify → List ℕ → List ℕ
from_side Left cs = cs
from_side Right cs = reverse cs
from_side Center cs = cs

-- how many characters the room has place for; without a box for all of them
abbrev pub place_for : Encoding → Justify → Room → List ℕ → ℕ
place_for encoding justify (Bits n) cs = front_count encoding n (from_side justify cs)
place_for encoding justify (Characters n) cs = n
place_for encoding justify Open cs = length cs
place_for encoding justify Delimited cs = length cs

-- a string is cut where its form says so, and nothing else is
abbrev pub is_cut : TextContent → Bool → Bool
is_cut Plain truncate = truncate
is_cut Octets truncate = false
is_cut (Number form kind) truncate = false
is_cut (Zoned form) truncate = false
is_cut (Truth form) truncate = false
is_cut (Nil form) truncate = false

-- what is told of characters that are longer than their box
abbrev pub cause_of_length : TextContent → Unwritten
cause_of_length Plain = TooLong
cause_of_length Octets = TooLong
cause_of_length (Number form kind) = NoTextForm
cause_of_length (Zoned form) = NoTextForm
cause_of_length (Truth form) = Boolean
cause_of_length (Nil form) = TooLong

-- so many characters of a text, the first or the last ones
abbrev pub cut_to : Justify → ℕ → List ℕ → List ℕ
cut_to justify count cs = take count (drop (cut_from justify (length cs) count) cs)

-- what is kept of characters where there is place for so many
abbrev pub kept_of : PadForm → TextContent → ℕ → List ℕ → Result (List ℕ) Unwritten
kept_of pad content count cs =
    if nat_le (length cs) count then Ok cs
    else if is_cut content pad.truncate then Ok (cut_to pad.justify count cs)
    else Err (cause_of_length content)

-- what is kept of characters in a room
abbrev pub kept : TextForm → Room → List ℕ → Result (List ℕ) Unwritten
kept form room cs = kept_of form.pad form.content (place_for form.encoding form.pad.justify room cs) cs
