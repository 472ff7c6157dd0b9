-- Packed numbers: which representation they have, how many nibbles, and their sign codes ('Simple Types', binaryNumberRep,
-- binaryPackedSignCodes and binaryNumberCheckPolicy).
use Rattle.std.specs.Prelude.{ℕ, List, [], ◌∷◌, length, slice_index, Bool, false, nat_le, ◌==◌, ◌&&◌, ◌*◌, ◌-◌, ◌/◌, ◌%◌, Option, Some, None, codes, if◌then◌else◌}
use Rattle.dfdl_forms.specs.Packed.{are_allowed, most_nibbles}
use Rattle.dfdl_forms.specs.declared.packed.PackedRep.{PackedRep}
use Rattle.dfdl_forms.specs.declared.packed.PackedRep.TheVariants.{Packed, Bcd, Ibm4690}
use Rattle.dfdl_scope.specs.Expressions.{literal}
use Rattle.dfdl_scope.specs.Scoping.{Told, Value, Absent, Twice}
use Rattle.dfdl_checks.specs.Judged.{Judged}
use Rattle.dfdl_checks.specs.Lengths.{size_within}
use Rattle.dfdl_checks.specs.Subjects.{is_binary_number, is_word, told_at}

-- the word for a packed representation
abbrev pub rep_word : PackedRep → List ℕ
rep_word Packed = codes "packed"
rep_word Bcd = codes "bcd"
rep_word Ibm4690 = codes "ibm4690Packed"

-- the packed representation that is told, if one is
abbrev pub rep_told : Told → Option PackedRep
rep_told told =
    if is_word (codes "packed") told then Some Packed
    else if is_word (codes "bcd") told then Some Bcd
    else if is_word (codes "ibm4690Packed") told then Some Ibm4690
    else None

-- the packed representation of the component, if it is a binary number that has one
abbrev pub rep_of : Judged → Option PackedRep
rep_of subject = if is_binary_number subject then rep_told (told_at subject (codes "binaryNumberRep")) else None

-- the nibbles of so many bits, where they are whole: four bits each
abbrev pub whole_nibbles : ℕ → Option ℕ
whole_nibbles bits = if bits % 4 == 0 then Some (bits / 4) else None

-- the same of a length that may not be
abbrev pub nibbles_in : Option ℕ → Option ℕ
nibbles_in (Some bits) = whole_nibbles bits
nibbles_in None = None

-- the nibbles of a length that a field of the representation can have
abbrev pub nibbles_within : PackedRep → Option ℕ → Option ℕ
nibbles_within rep length = nibbles_in (size_within (4 * most_nibbles rep) length)

-- the code that a character stands for: 0, or A to F; for every other one a number that is no code
abbrev pub code_of : ℕ → ℕ
code_of c = if c == 48 then 0 else if nat_le 65 c && nat_le c 70 then c - 55 else 16

-- a text has four characters, with a space between each two of them
abbrev pub are_four : List ℕ → Bool
are_four text = length text == 7 && slice_index text 1 == 32 && slice_index text 3 == 32 && slice_index text 5 == 32

-- the codes that four characters of a text stand for
abbrev pub codes_in : List ℕ → List ℕ
codes_in text =
    code_of (slice_index text 0) ∷ code_of (slice_index text 2) ∷ code_of (slice_index text 4) ∷ code_of (slice_index text 6) ∷ []

-- four codes, where they are allowed
abbrev pub allowed_codes : List ℕ → Option (List ℕ)
allowed_codes four = if are_allowed four then Some four else None

-- the sign codes of a text
abbrev pub codes_of_text : List ℕ → Option (List ℕ)
codes_of_text text = if are_four text then allowed_codes (codes_in text) else None

-- the sign codes C D F C
abbrev pub usual_codes : List ℕ
usual_codes = 12 ∷ 13 ∷ 15 ∷ 12 ∷ []

-- the sign codes that are told
abbrev pub codes_told : Told → Option (List ℕ)
codes_told (Value written) = codes_of_text (literal written)
codes_told Absent = Some usual_codes
codes_told (Twice place) = None

-- the sign codes of a representation, by what is told of them: those without a sign behind their digits are asked for none
abbrev pub codes_for : PackedRep → Told → Option (List ℕ)
codes_for Packed told = codes_told told
codes_for Bcd told = Some usual_codes
codes_for Ibm4690 told = Some usual_codes

-- whether the listed codes alone are read, by what is told of the policy
abbrev pub is_strict : PackedRep → Told → Bool
is_strict Packed told = is_word (codes "strict") told
is_strict Bcd told = false
is_strict Ibm4690 told = false
