-- Mirror for the prover: an order that is being made, and other lists of components without repeats. A component that
-- isn't listed has the rank `length uses` or more.
use Rattle.std.specs.Prelude.{◌≡◌, ℕ, ◌+◌, ◌<◌, ◌≤◌, ◌&&◌, List, [], ◌∷◌, ◌++◌, length, All, get_or, slice_set, Bool, true, false, nat_lt, nat_le, if◌then◌else◌}
use Rattle.std.specs.List.{list_all, sum_by}
use Rattle.dfdl_order.specs.Parts.{uses_of, Places}

-- a list of components and their places
abbrev pub placed : List ℕ → List ℕ → Places
placed list rank = record { list = list; rank = rank }

-- the list with one more component behind the others
abbrev pub with_one : Places → ℕ → Places
with_one order c = placed (order.list ++ c ∷ []) (slice_set order.rank c (length order.list))

-- one where a rank is no place
abbrev pub open_one : ℕ → ℕ → ℕ
open_one count rank = if nat_lt rank count then 0 else 1

-- some of so many components, each listed once
pub record IsListing (count : ℕ) (order : Places) : Type 0 where
  pub ranked : length order.rank ≡ count
  pub counted : length order.list + sum_by (open_one count) order.rank ≡ count
  pub place : (c : ℕ) → c < count → get_or order.rank c 0 < count
      → (get_or order.rank c 0 < length order.list) × (get_or order.list (get_or order.rank c 0) 0 ≡ c)
  pub component : (i : ℕ) → i < length order.list → (get_or order.list i 0 < count) × (get_or order.rank (get_or order.list i 0) 0 ≡ i)

-- the order of some components, whose parts are among them
pub record IsPart (uses : List (List ℕ)) (order : Places) : Type 0 where
  pub listing : IsListing (length uses) order
  pub falls : (c : ℕ) → c < length uses → get_or order.rank c 0 < length uses
      → All (λ p. (p < length uses) × (get_or order.rank p 0 < get_or order.rank c 0)) (uses_of uses c)

-- each of some components has a place
abbrev pub all_ranked : ℕ → Places → List ℕ → Bool
all_ranked count order parts = list_all (λ p. nat_lt (get_or order.rank p 0) count) parts

-- a component has no place, and each of its parts has one
abbrev pub is_ready : List (List ℕ) → Places → ℕ → Bool
is_ready uses order c = nat_le (length uses) (get_or order.rank c 0) && all_ranked (length uses) order (uses_of uses c)

-- no component is ready
abbrev pub NoneReady : List (List ℕ) → Places → Type 0
NoneReady uses order = (c : ℕ) → c < length uses → is_ready uses order c ≡ false

-- a component is ready
abbrev pub IsNextReady : List (List ℕ) → Places → ℕ → Type 0
IsNextReady uses order c = (c < length uses) × (is_ready uses order c ≡ true)

-- each component has a place
abbrev pub AllPlaced : List (List ℕ) → Places → Type 0
AllPlaced uses order = (c : ℕ) → c < length uses → get_or order.rank c 0 < length uses

-- a component that has no place
abbrev pub IsUnplaced : List (List ℕ) → Places → ℕ → Type 0
IsUnplaced uses order c = (c < length uses) × (length uses ≤ get_or order.rank c 0)
