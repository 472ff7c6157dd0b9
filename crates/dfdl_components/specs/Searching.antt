-- The first answer among numbers.
use Rattle.std.specs.Prelude.{ℕ, zero, suc, Option, Some, None}

-- the first of two answers, where there is one
abbrev pub or_else : {X : Type 0} → Option X → Option X → Option X
or_else (Some x) other = Some x
or_else None other = other

-- the answer of the least number below a bound that has one
unfoldable pub first_below : {X : Type 0} → (ℕ → Option X) → ℕ → Option X
first_below answer zero = None
first_below answer (suc n) = or_else (first_below answer n) (answer n)
