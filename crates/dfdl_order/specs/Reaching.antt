-- Mirror for the prover: searches for components that reach others or themselves.
use Rattle.std.specs.Prelude.{◌≡◌, ℕ, suc, ◌<◌, ◌≤◌, List, Contains, length, All, get_or, true}
use Rattle.dfdl_order.specs.Parts.{uses_of, Places}
use Rattle.dfdl_order.specs.Filling.{IsListing, IsUnplaced}
use Rattle.dfdl_order.specs.Cycles.{leads, reaches_itself}

-- components that one leads to, in no more steps than there are of them
pub record AreReached (uses : List (List ℕ)) (from : ℕ) (reached : Places) : Type 0 where
  pub listing : IsListing (length uses) reached
  pub reach : (i : ℕ) → i < length reached.list → leads (uses_of uses) (length reached.list) from (get_or reached.list i 0) ≡ true

-- components that one leads to in no more steps than there are of some, and one
abbrev pub AreNext : List (List ℕ) → ℕ → Places → List ℕ → Type 0
AreNext uses from reached parts = All (λ p. (p < length uses) × (leads (uses_of uses) (suc (length reached.list)) from p ≡ true)) parts

-- a list is the same at the places of another
pub record Keeps (old new : Places) : Type 0 where
  pub longer : length old.list ≤ length new.list
  pub same : (i : ℕ) → i < length old.list → get_or new.list i 0 ≡ get_or old.list i 0

-- some components are listed
abbrev pub AreListed : ℕ → Places → List ℕ → Type 0
AreListed count order parts = All (λ p. get_or order.rank p 0 < count) parts

-- the parts of the first components of a list are listed
abbrev pub HasPartsBefore : List (List ℕ) → ℕ → Places → Type 0
HasPartsBefore uses i order = (j : ℕ) → j < i → AreListed (length uses) order (uses_of uses (get_or order.list j 0))

-- the components that one leads to
pub record IsReach (uses : List (List ℕ)) (from : ℕ) (found : Places) : Type 0 where
  pub reached : AreReached uses from found
  pub first : AreListed (length uses) found (uses_of uses from)
  pub closed : HasPartsBefore uses (length found.list) found

-- a way along parts: each component on it leads to the one where the way is, in no more steps than it has components
pub record IsWay (uses : List (List ℕ)) (path : Places) (at : ℕ) : Type 0 where
  pub listing : IsListing (length uses) path
  pub reach : (i : ℕ) → i < length path.list → leads (uses_of uses) (length path.list) (get_or path.list i 0) at ≡ true

-- one of the parts of a component, without a place
pub record IsOpenPart (uses : List (List ℕ)) (order : Places) (c p : ℕ) : Type 0 where
  pub part : Contains (uses_of uses c) p
  pub unplaced : IsUnplaced uses order p

-- a component that reaches itself
abbrev pub IsRecursive : List (List ℕ) → ℕ → Type 0
IsRecursive uses c = (c < length uses) × (reaches_itself uses c ≡ true)

-- a number for each component, where no part has a higher one
abbrev pub NeverRises : List (List ℕ) → List ℕ → Type 0
NeverRises uses levels = (c : ℕ) → c < length uses → All (λ p. get_or levels p 0 ≤ get_or levels c 0) (uses_of uses c)
