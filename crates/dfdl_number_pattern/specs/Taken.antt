-- What a step of the reader answers.
use Rattle.std.specs.Prelude.{◌≡◌, Bool, true, false, Option, Some, None}
use Rattle.dfdl_number_pattern.specs.Machine.{State}

-- true with the next state, and false where there is none
abbrev pub Takes : Option State → Bool → State → Type 0
Takes next true s = next ≡ Some s
Takes next false s = next ≡ None
