-- Two's complement. 'Simple Types'.
use Rattle.std.specs.Prelude.{ℕ, ◌-◌, ◌^◌, ℤ, pos, negsuc, nat_lt, Option, Some, None, if◌then◌else◌}

-- the integer that a number of bits bits stands for: itself, or itself less 2 ^ bits where its highest bit is set
abbrev pub signed_of : ℕ → ℕ → ℤ
signed_of bits number = if nat_lt number (2 ^ (bits - 1)) then pos number else negsuc (2 ^ bits - 1 - number)

-- the number of bits bits that stands for an integer, if there is one
abbrev pub pattern_of : ℕ → ℤ → Option ℕ
pattern_of bits (pos n) = if nat_lt n (2 ^ (bits - 1)) then Some n else None
pattern_of bits (negsuc n) = if nat_lt n (2 ^ (bits - 1)) then Some (2 ^ bits - 1 - n) else None
