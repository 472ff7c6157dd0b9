-- The characters of a text at places, which count from 1.
use Rattle.std.specs.Prelude.{ℕ, ◌+◌, Bool, not, ◌&&◌, if◌then◌else◌, List, [], ◌∷◌, Option, Some, None, Result, Ok, Err, pos}
use Rattle.dfdl_decimal.specs.Arithmetic.{comparison_of}
use Rattle.dfdl_decimal.specs.Decimal.{DecimalNumber}
use Rattle.dfdl_operators.specs.declared.fault.OperatorFault.{OperatorFault}
use Rattle.dfdl_operators.specs.declared.fault.OperatorFault.TheVariants.{WrongType}
use Rattle.dfdl_operators.specs.Comparisons.{is_less}
use Rattle.dfdl_operators.specs.Numbers.{Answer, number_of}

-- a place is below a number
abbrev pub is_below : ℕ → DecimalNumber → Bool
is_below place d = is_less (comparison_of (record { mantissa = pos place; scale = 0 }) d)

-- the characters whose place passes a test, where the first of them stands at this place
abbrev pub placed : (ℕ → Bool) → ℕ → List ℕ → List ℕ
placed passes place [] = []
placed passes place (c ∷ cs) =
    if passes place then c ∷ placed passes (place + 1) cs else placed passes (place + 1) cs

-- characters, or why there are none
abbrev pub Part : Type 0
Part = Result (List ℕ) OperatorFault

-- the characters whose place is at least the first number
abbrev pub from_place : Option DecimalNumber → List ℕ → Part
from_place (Some first) cs = Ok (placed (λ place. not (is_below place first)) 1 cs)
from_place None cs = Err WrongType

-- and below the second
abbrev pub between_places : Option DecimalNumber → Option DecimalNumber → List ℕ → Part
between_places (Some first) (Some end) cs =
    Ok (placed (λ place. not (is_below place first) && is_below place end) 1 cs)
between_places _ _ cs = Err WrongType

-- the second is a sum
abbrev pub up_to_sum : Option DecimalNumber → Answer → List ℕ → Part
up_to_sum first (Ok sum) cs = between_places first (number_of sum) cs
up_to_sum first (Err why) cs = Err why
