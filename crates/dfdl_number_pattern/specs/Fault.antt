-- Why a text gave no pattern.
use Rattle.std.specs.Prelude.{◌≡◌, ℕ, List, None}
use Rattle.dfdl_fronts.specs.Fronts.{IsPlace}
use Rattle.dfdl_number_pattern.specs.declared.fault.PatternFault.{PatternFault}
use Rattle.dfdl_number_pattern.specs.declared.fault.PatternFault.TheVariants.{Malformed, OutOfMemory}
use Rattle.dfdl_number_pattern.specs.Pattern.{IsPattern}
use Rattle.dfdl_number_pattern.specs.Read.{pattern_read}

-- the bytes are no pattern, and the place is the first at which none can go on; want of memory says nothing
abbrev pub IsFaultOf : List ℕ → PatternFault → Type 0
IsFaultOf bytes (Malformed at) = IsPlace IsPattern bytes at
IsFaultOf bytes OutOfMemory = Unit {0}

-- what is refused as malformed is read as no pattern; want of memory says nothing
abbrev pub IsRefusalOf : List ℕ → PatternFault → Type 0
IsRefusalOf bytes (Malformed at) = pattern_read bytes ≡ None
IsRefusalOf bytes OutOfMemory = Unit {0}
