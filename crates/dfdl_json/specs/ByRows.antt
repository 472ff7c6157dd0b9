-- What rows have by recursion: the value of a row is made of those of the rows below it.
use Rattle.std.specs.Prelude.{ℕ, zero, suc, nat_eq, if◌then◌else◌, List, Option, slice_get}
use Rattle.dfdl_terms.specs.declared.row.Row.{Row}

-- the values of the rows below a number, and `none` from there on
unfoldable pub below : {V : Type 0} → ((ℕ → V) → ℕ → Option Row → V) → V → List Row → ℕ → ℕ → V
below step none rows zero id = none
below step none rows (suc n) id =
    if nat_eq id n then step (below step none rows n) n (slice_get rows n) else below step none rows n id

-- the value of the row of this number
unfoldable pub by_rows : {V : Type 0} → ((ℕ → V) → ℕ → Option Row → V) → V → List Row → ℕ → V
by_rows step none rows id = step (below step none rows id) id (slice_get rows id)
