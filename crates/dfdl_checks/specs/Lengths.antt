-- Constant lengths of binary numbers and booleans, in bits ('Simple Types', on binary representation).
use Rattle.std.specs.Prelude.{ℕ, Bool, nat_le, ◌&&◌, ◌*◌, List, Option, Some, None, codes, if◌then◌else◌, option_map}
use Rattle.std.specs.Str.Parse.{digits_value}
use Rattle.dfdl_scope.specs.Expressions.{literal}
use Rattle.dfdl_scope.specs.Scoping.{Told, Value, Absent, Twice}
use Rattle.dfdl_checks.specs.Subjects.{is_word, told_at}
use Rattle.dfdl_checks.specs.Values.{is_number}
use Rattle.dfdl_checks.specs.Judged.{Judged}

-- the number that digits stand for
abbrev pub number_of_digits : List ℕ → Option ℕ
number_of_digits text = if is_number text then Some (digits_value 10 text) else None

-- the number that is told, where digits are
abbrev pub number_told : Told → Option ℕ
number_told (Value written) = number_of_digits (literal written)
number_told Absent = None
number_told (Twice place) = None

-- how many bits a unit has: a bit or a byte
abbrev pub unit_of : Bool → ℕ
unit_of is_bit = if is_bit then 1 else 8

-- how many bits the units have that are told: bits, else bytes
abbrev pub unit_bits : Told → ℕ
unit_bits units = unit_of (is_word (codes "bits") units)

-- a length of so many units, in bits
abbrev pub length_in : ℕ → Option ℕ → Option ℕ
length_in unit number = option_map (λ n. n * unit) number

-- the component's length in bits, where it is constant
abbrev pub constant_length : Judged → Option ℕ
constant_length subject = length_in (unit_bits (told_at subject (codes "lengthUnits"))) (number_told (told_at subject (codes "length")))

-- a length that a field can have which has a bit, and no more than so many
abbrev pub size_within : ℕ → Option ℕ → Option ℕ
size_within most (Some bits) = if nat_le 1 bits && nat_le bits most then Some bits else None
size_within most None = None
