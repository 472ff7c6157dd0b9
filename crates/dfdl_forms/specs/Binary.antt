-- Which sizes binary fields can have. 'Simple Types' (binary number representation, binaryBooleanTrueRep,
-- binaryBooleanFalseRep).
use Rattle.std.specs.Prelude.{ℕ, ◌≤◌}
use Rattle.dfdl_forms.specs.declared.simple.Form.{Form}
use Rattle.dfdl_forms.specs.declared.simple.Form.TheVariants.{Signed, Unsigned, Fixed}

-- how many bits the field of a number can have: as many as the type, and 128 for a decimal (profile)
abbrev pub most_bits : Form → ℕ
most_bits (Signed bits) = bits
most_bits (Unsigned bits) = bits
most_bits Fixed = 128
most_bits _ = 0

-- how many digits can stand behind the virtual point (profile); an integer has none
abbrev pub most_places : Form → ℕ
most_places Fixed = 38
most_places _ = 0

-- the sizes in bits of a number's field
abbrev pub IsNumberSize : Form → ℕ → Type 0
IsNumberSize form bits = (1 ≤ bits) × (bits ≤ most_bits form)

-- the sizes in bits of a boolean's field
abbrev pub IsTruthSize : ℕ → Type 0
IsTruthSize bits = (1 ≤ bits) × (bits ≤ 32)
