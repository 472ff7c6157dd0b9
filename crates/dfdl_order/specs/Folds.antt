-- Values of components by recursion on their parts.
use Rattle.std.specs.Prelude.{◌≡◌, ℕ, zero, suc, ◌<◌, List, map, length, get_or}
use Rattle.dfdl_order.specs.Parts.{uses_of, Places}

-- the value of a component, by a step from the values of its parts; `none` is the value past so many levels of parts
unfoldable pub over : {V : Type 0} → (ℕ → List ℕ) → (ℕ → List V → V) → V → ℕ → ℕ → V
over parts step none zero c = none
over parts step none (suc n) c = step c (map (over parts step none n) (parts c))

-- the value of a component, by recursion on parts
abbrev pub value_by : {V : Type 0} → List (List ℕ) → (ℕ → List V → V) → V → ℕ → V
value_by uses step none c = over (uses_of uses) step none (length uses) c

-- a table has the value of each component that stands before a place of the order
abbrev pub HasBefore : {V : Type 0} → List (List ℕ) → Places → (ℕ → List V → V) → V → ℕ → List V → Type 0
HasBefore uses order step none i table = (c : ℕ) → c < length uses → get_or order.rank c 0 < i → get_or table c none ≡ value_by uses step none c
