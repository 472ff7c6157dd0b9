-- Numbers below a bound that pass a test.
use Rattle.std.specs.Prelude.{ℕ, zero, suc, ◌+◌, ◌||◌, Bool, true, false, List, [], ◌∷◌, ◌++◌}

-- a number, where it passes
abbrev pub one_if : Bool → ℕ → List ℕ
one_if true number = number ∷ []
one_if false number = []

abbrev pub count_if : Bool → ℕ
count_if true = 1
count_if false = 0

-- those below a bound that pass, from the least on
unfoldable pub those_below : (ℕ → Bool) → ℕ → List ℕ
those_below test zero = []
those_below test (suc number) = those_below test number ++ one_if (test number) number

-- how many below a bound pass
unfoldable pub count_below : (ℕ → Bool) → ℕ → ℕ
count_below test zero = 0
count_below test (suc number) = count_below test number + count_if (test number)

-- one below a bound passes
unfoldable pub some_below : (ℕ → Bool) → ℕ → Bool
some_below test zero = false
some_below test (suc number) = some_below test number || test number
