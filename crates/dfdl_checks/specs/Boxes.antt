-- The boxes of texts, of elements of type hexBinary and of complex elements, by their constant lengths ('Lengths').
use Rattle.std.specs.Prelude.{ℕ, Bool, nat_le, not, ◌&&◌, ◌||◌, ◌*◌, Option, Some, None, is_some, codes, if◌then◌else◌}
use Rattle.dfdl_terms.specs.Rows.{most_length}
use Rattle.dfdl_checks.specs.Encodings.{character_bits, encoding_told}
use Rattle.dfdl_checks.specs.Judged.{Judged}
use Rattle.dfdl_checks.specs.Lengths.{length_in, number_told, unit_bits}
use Rattle.dfdl_checks.specs.Subjects.{is_boxed, is_by_expression, is_complex, is_explicit, is_sized_by_data, is_string, is_string_or_bytes, is_text, is_told, told_at}
use Rattle.dfdl_checks.specs.declared.purpose.Purpose.{Purpose}
use Rattle.dfdl_checks.specs.declared.purpose.Purpose.TheVariants.{Parsing, Unparsing}

-- such an element has a length of its own
abbrev pub is_explicit_box : Judged → Bool
is_explicit_box subject = is_boxed subject && is_explicit subject

-- a string, or an element of type hexBinary, has the length of its type
abbrev pub is_implicit_box : Judged → Bool
is_implicit_box subject = is_string_or_bytes subject.kind && is_told subject (codes "lengthKind") (codes "implicit")

-- a string has the length of its type
abbrev pub is_implicit_string : Judged → Bool
is_implicit_string subject = is_string subject.kind && is_told subject (codes "lengthKind") (codes "implicit")

-- the length of the component's box is counted in characters
abbrev pub is_in_characters : Judged → Bool
is_in_characters subject = is_text subject && is_told subject (codes "lengthUnits") (codes "characters")

-- how many bits a unit of the component's units has: a bit, a byte, or the smallest unit of the encoding for a character
abbrev pub told_unit : Judged → ℕ
told_unit subject =
    if is_in_characters subject then character_bits (encoding_told (told_at subject (codes "encoding")))
    else unit_bits (told_at subject (codes "lengthUnits"))

-- the length is told in the component's units; the greatest length of hexBinary is one in bytes
abbrev pub counts_units : Judged → Bool
counts_units subject = is_text subject || is_explicit subject

-- how many bits a unit of the box has
abbrev pub box_unit : Judged → ℕ
box_unit subject = if counts_units subject then told_unit subject else 8

-- How many units the box has, where a number is told: as many as its own length, else as many as the type. Where the data tell
-- them, none stand for them.
abbrev pub box_number : Judged → Option ℕ
box_number subject =
    if is_sized_by_data subject then Some 0
    else if is_explicit subject then number_told (told_at subject (codes "length"))
    else subject.facts.max_length

-- a number of units of so many bits, where they aren't past the greatest length
abbrev pub units_within : ℕ → Option ℕ → Option ℕ
units_within unit (Some n) = if nat_le (n * unit) most_length then Some n else None
units_within unit None = None

-- how many units the box has, where they aren't past the greatest length
abbrev pub box_units : Judged → Option ℕ
box_units subject = units_within (box_unit subject) (box_number subject)

-- how many bits it has
abbrev pub box_bits : Judged → Option ℕ
box_bits subject = length_in (box_unit subject) (box_units subject)

-- a number of units is told, and they are past the greatest length
abbrev pub is_past_most : Judged → Bool
is_past_most subject = is_some (box_number subject) && not (is_some (box_units subject))

-- the component has a box by a length of its own or that of its type, and the box is past the greatest length
abbrev pub is_box_too_long : Judged → Bool
is_box_too_long subject = (is_explicit_box subject || is_implicit_box subject) && is_past_most subject

-- a complex element with a length of its own that is constant
abbrev pub is_explicit_complex : Judged → Bool
is_explicit_complex subject = is_complex subject.kind && (is_explicit subject && not (is_by_expression subject))

-- how many bits the box of a complex element has, which is built for parsing
abbrev pub size_for : Purpose → Judged → Option ℕ
size_for Parsing subject = if is_explicit_complex subject then box_bits subject else None
size_for Unparsing subject = None

-- how many bits the box has around the content of a complex element with a constant length of its own; no other component has one
abbrev pub size_of_box : Judged → Option ℕ
size_of_box subject = size_for subject.purpose subject
