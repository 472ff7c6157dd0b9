-- The names of encodings ('Simple Types', on encoding).
use Rattle.std.specs.Prelude.{ℕ, List, Bool, true, false, ◌||◌, Option, Some, None, codes, if◌then◌else◌}
use Rattle.std.specs.Str.{str_eq_ignore_ascii_case}
use Rattle.dfdl_forms.specs.declared.encoding.Encoding.{Encoding}
use Rattle.dfdl_forms.specs.declared.encoding.Encoding.TheVariants.{Utf8, UsAscii, Iso88591, Utf16Be, Utf16Le}
use Rattle.dfdl_scope.specs.Expressions.{literal}
use Rattle.dfdl_scope.specs.Scoping.{Told, Value, Absent, Twice}

-- the encoding of this name, whose ASCII letters may have either case
abbrev pub encoding_named : List ℕ → Option Encoding
encoding_named name =
    if str_eq_ignore_ascii_case name (codes "UTF-8") then Some Utf8
    else if str_eq_ignore_ascii_case name (codes "US-ASCII") || str_eq_ignore_ascii_case name (codes "ASCII") then Some UsAscii
    else if str_eq_ignore_ascii_case name (codes "ISO-8859-1") then Some Iso88591
    else if str_eq_ignore_ascii_case name (codes "UTF-16BE") then Some Utf16Be
    else if str_eq_ignore_ascii_case name (codes "UTF-16LE") then Some Utf16Le
    else None

-- the encoding that is told
abbrev pub encoding_told : Told → Option Encoding
encoding_told (Value written) = encoding_named (literal written)
encoding_told Absent = None
encoding_told (Twice place) = None

-- how many bits the smallest unit of the encoding has
abbrev pub smallest_unit : Encoding → ℕ
smallest_unit Utf16Be = 16
smallest_unit Utf16Le = 16
smallest_unit _ = 8

-- the same of an encoding that may not be told
abbrev pub character_bits : Option Encoding → ℕ
character_bits (Some encoding) = smallest_unit encoding
character_bits None = 8

-- an encoding that isn't ISO-8859-1, where one is told
abbrev pub is_other_encoding : Option Encoding → Bool
is_other_encoding None = false
is_other_encoding (Some Utf8) = true
is_other_encoding (Some UsAscii) = true
is_other_encoding (Some Iso88591) = false
is_other_encoding (Some Utf16Be) = true
is_other_encoding (Some Utf16Le) = true
