-- Recursive definitions ('DFDL Schema Component Model'): components that reach themselves through their parts.
use Rattle.std.specs.Prelude.{◌≡◌, ℕ, zero, suc, ◌<◌, ◌||◌, List, length, Bool, true, false, nat_eq}
use Rattle.std.specs.List.{list_any}
use Rattle.dfdl_order.specs.Parts.{uses_of}
use Rattle.dfdl_order.specs.declared.fault.OrderFault.{OrderFault}
use Rattle.dfdl_order.specs.declared.fault.OrderFault.TheVariants.{Recursive, OutOfMemory}

-- a component leads to another in at least one step and at most so many: the other is one of its parts, or one of its
-- parts leads to it
unfoldable pub leads : (ℕ → List ℕ) → ℕ → ℕ → ℕ → Bool
leads parts zero from to = false
leads parts (suc n) from to = list_any (λ p. nat_eq p to || leads parts n p to) (parts from)

-- a component reaches itself; more steps than there are components reach nothing new
abbrev pub reaches_itself : List (List ℕ) → ℕ → Bool
reaches_itself uses c = leads (uses_of uses) (length uses) c c

-- the first component that reaches itself
pub record IsFirstRecursive (uses : List (List ℕ)) (c : ℕ) : Type 0 where
  pub within : c < length uses
  pub recursive : reaches_itself uses c ≡ true
  pub before : (b : ℕ) → b < c → reaches_itself uses b ≡ false

-- what a fault says of components
abbrev pub IsFaultOf : List (List ℕ) → OrderFault → Type 0
IsFaultOf uses (Recursive c) = IsFirstRecursive uses c
IsFaultOf uses OutOfMemory = Unit {0}
