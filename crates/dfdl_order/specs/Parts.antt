-- Components and their parts: each component is a number, and a list has each one's parts in schema order.
use Rattle.std.specs.Prelude.{◌≡◌, ℕ, ◌<◌, List, [], length, All, get_or}

-- the parts of a component
abbrev pub uses_of : List (List ℕ) → ℕ → List ℕ
uses_of uses c = get_or uses c []

-- each part is a component
abbrev pub IsClosed : List (List ℕ) → Type 0
IsClosed uses = All (λ parts. All (λ p. p < length uses) parts) uses

-- a list of components, and the place of each one in it
pub record Places : Type 0 where
  pub list : List ℕ
  pub rank : List ℕ

-- the list has each component once, behind its parts
pub record IsOrder (uses : List (List ℕ)) (order : Places) : Type 0 where
  pub listed : length order.list ≡ length uses
  pub ranked : length order.rank ≡ length uses
  pub place : (c : ℕ) → c < length uses → (get_or order.rank c 0 < length uses) × (get_or order.list (get_or order.rank c 0) 0 ≡ c)
  pub component : (i : ℕ) → i < length uses → (get_or order.list i 0 < length uses) × (get_or order.rank (get_or order.list i 0) 0 ≡ i)
  pub falls : (c : ℕ) → c < length uses → All (λ p. (p < length uses) × (get_or order.rank p 0 < get_or order.rank c 0)) (uses_of uses c)
