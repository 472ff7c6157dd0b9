-- A table that has the values of the components that stand before a place of an order.
use Rattle.std.proofs.Common.{◌≡◌, ℕ, ◌+◌, ◌<◌, ◌≤◌, List, length, map, set, get_or, sym, ap, subst, ◌∙◌, arith, length-set}
use Rattle.dfdl_order.specs.Parts.{uses_of, IsOrder, Places}
use Rattle.dfdl_order.specs.Folds.{value_by, HasBefore}
use Rattle.dfdl_order.proofs.Over.{has_more}

-- the table along a list, which is that of an order
pub record IsKnown (V : Type 0) (uses : List (List ℕ)) (step : ℕ → List V → V) (none : V) (list : List ℕ) (i : ℕ) (table : List V) : Type 0 where
  pub order : Places
  pub is_order : IsOrder uses order
  pub listed : list ≡ order.list
  pub counted : length table ≡ length uses
  pub before : HasBefore uses order step none i table

-- the value of the next component of the list
pub known_more : (V : Type 0) (uses : List (List ℕ)) (step : ℕ → List V → V) (none : V) (list : List ℕ) (i : ℕ) (table : List V) (v : V)
    → IsKnown V uses step none list i table → i < length list
    → v ≡ step (get_or list i 0) (map (λ p. get_or table p none) (uses_of uses (get_or list i 0)))
    → IsKnown V uses step none list (i + 1) (set table (get_or list i 0) v)
known_more V uses step none list i table v known less made = record {
  order = known.order;
  is_order = known.is_order;
  listed = known.listed;
  counted = length-set table (get_or list i 0) v ∙ known.counted;
  before = subst (λ (xs : List ℕ). HasBefore uses known.order step none (i + 1) (set table (get_or xs i 0) v)) (sym known.listed)
      (has_more uses known.order step none known.is_order i table v
      (omega (arith, less, ap (λ (xs : List ℕ). length xs) known.listed, known.is_order.listed)) known.counted known.before
      (subst (λ (xs : List ℕ). v ≡ step (get_or xs i 0) (map (λ p. get_or table p none) (uses_of uses (get_or xs i 0)))) known.listed made));
}

-- at the end of the list each component's value is known
pub known_all : (V : Type 0) (uses : List (List ℕ)) (step : ℕ → List V → V) (none : V) (list : List ℕ) (i : ℕ) (table : List V)
    → IsKnown V uses step none list i table → length list ≤ i → (c : ℕ) → c < length uses → get_or table c none ≡ value_by uses step none c
known_all V uses step none list i table known all c within = known.before c within
    (omega (arith, (known.is_order.place c within).0, known.is_order.listed, all, ap (λ (xs : List ℕ). length xs) known.listed))
