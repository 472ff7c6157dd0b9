-- What the values of attributes can be: names ('Namespaces in XML 1.0'), numbers and truth values
-- ('XML Schema Part 2: Datatypes'). No white space is taken off.
use Rattle.std.specs.Prelude.{ℕ, ◌+◌, ◌-◌, ◌*◌, ◌^◌, ◌==◌, ◌&&◌, ◌||◌, Bool, false, nat_le}
use Rattle.std.specs.Prelude.{List, [], ◌∷◌, length, Option, Some, None, if◌then◌else◌, codes, bytes_eq, chars}
use Rattle.std.specs.List.{list_all}
use Rattle.std.specs.Option.{option_map}
use Rattle.dfdl_xml_chars.specs.Characters.{is_name_start, is_name_char}
use Rattle.dfdl_constructs.specs.declared.value.ValueForm.{ValueForm}
use Rattle.dfdl_constructs.specs.declared.value.ValueForm.TheVariants.{NcName, QName, Digits}
use Rattle.dfdl_constructs.specs.declared.value.ValueForm.TheVariants.{DigitsOrUnbounded, One, Boolean}

-- a name can begin with the first of the characters, and there is one
abbrev pub begins_name : List ℕ → Bool
begins_name [] = false
begins_name (c ∷ characters) = is_name_start c

-- the text is the production NCName: characters that a name is made of, the first of them one that a
-- name begins with, and none a colon
abbrev pub is_ncname : List ℕ → Bool
is_ncname text = begins_name (chars text) && list_all is_name_char (chars text)

-- the text before and behind its first colon
abbrev pub at_colon : List ℕ → Option (List ℕ × List ℕ)
at_colon [] = None
at_colon (b ∷ text) =
    if b == 58 then Some ([], text) else option_map (λ parts. (b ∷ parts.0, parts.1)) (at_colon text)

-- the prefix, or the empty text, and the local part
abbrev pub parts_by : List ℕ → Option (List ℕ × List ℕ) → List ℕ × List ℕ
parts_by text None = ([], text)
parts_by text (Some parts) = parts

-- the prefix of a qualified name, empty where it has none
abbrev pub prefix_in : List ℕ → List ℕ
prefix_in text = (parts_by text (at_colon text)).0

-- the local part of a qualified name
abbrev pub local_in : List ℕ → List ℕ
local_in text = (parts_by text (at_colon text)).1

-- the text is the production QName: an NCName, or two with a colon between them
abbrev pub is_qname_by : List ℕ → Option (List ℕ × List ℕ) → Bool
is_qname_by text None = is_ncname text
is_qname_by text (Some parts) = is_ncname parts.0 && is_ncname parts.1

-- the same, from the text alone
abbrev pub is_qname : List ℕ → Bool
is_qname text = is_qname_by text (at_colon text)

-- a decimal digit
unfoldable pub is_digit : ℕ → Bool
is_digit b = nat_le 48 b && nat_le b 57

-- the text is a run of decimal digits, and not empty
abbrev pub is_number : List ℕ → Bool
is_number [] = false
is_number (b ∷ text) = is_digit b && list_all is_digit text

-- the number that a run of decimal digits stands for
abbrev pub number : List ℕ → ℕ
number [] = 0
number (b ∷ text) = (b - 48) * 10 ^ length text + number text

-- a truth value
abbrev pub is_boolean : List ℕ → Bool
is_boolean text =
    bytes_eq text (codes "true") || (bytes_eq text (codes "false")
    || (bytes_eq text (codes "1") || bytes_eq text (codes "0")))

-- the number one
abbrev pub is_one : List ℕ → Bool
is_one text = is_number text && number text == 1

-- a value of this form
abbrev pub is_value : ValueForm → List ℕ → Bool
is_value NcName text = is_ncname text
is_value QName text = is_qname text
is_value Digits text = is_number text
is_value DigitsOrUnbounded text = is_number text || bytes_eq text (codes "unbounded")
is_value One text = is_one text
is_value Boolean text = is_boolean text
