-- Mirror for the prover: variables in the order of their elements.
use Rattle.std.specs.Prelude.{◌≡◌, ℕ, ◌==◌, ◌&&◌, ◌||◌, Bool, true, false, nat_lt, List}
use Rattle.std.specs.List.{AllPairs}
use Rattle.std.specs.List.Sorted.{IsPartitionPoint}
use Rattle.dfdl_components.specs.declared.site.Site.{Site}
use Rattle.dfdl_variables.specs.declared.variable.Declared.{Declared}

-- one element stands before another
abbrev pub stands_before : Site → Site → Bool
stands_before a b = nat_lt a.document b.document || (a.document == b.document && nat_lt a.element b.element)

-- one variable is defined before another
abbrev pub IsBefore : Declared → Declared → Type 0
IsBefore a b = stands_before a.site b.site ≡ true

-- each is defined before all behind it
abbrev pub AreOrdered : List Declared → Type 0
AreOrdered variables = AllPairs IsBefore variables

-- so many are defined before an element, and all others aren't
abbrev pub IsDivided : List Declared → Site → ℕ → Type 0
IsDivided variables own at =
    IsPartitionPoint (λ (variable : Declared). stands_before variable.site own ≡ true)
    (λ (variable : Declared). stands_before variable.site own ≡ false) variables at
