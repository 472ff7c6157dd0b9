-- The first component that reaches itself.
use Rattle.std.proofs.Common.{◌≡◌, ℕ, ◌<◌, List, length, Some, None, Bool, false, if◌then◌else◌, ap}
use Rattle.dfdl_order.specs.Cycles.{reaches_itself, IsFirstRecursive}
use Rattle.dfdl_breaches.proofs.Searches.{found_at, none_below}
use Rattle.dfdl_compile.specs.Compiled.{if_recursive, first_recursive}

if_none : (uses : List (List ℕ)) (c : ℕ) → reaches_itself uses c ≡ false → if_recursive uses c ≡ None
if_none uses c never = ap (λ (b : Bool). if b then Some c else None) never

-- no component reaches itself
pub none_recursive : (uses : List (List ℕ)) → ((c : ℕ) → c < length uses → reaches_itself uses c ≡ false) → first_recursive uses ≡ None
unfolding first_recursive
none_recursive uses nones = none_below (if_recursive uses) (length uses) (λ c less. if_none uses c (nones c less))

-- the first that does
pub is_recursive : (uses : List (List ℕ)) (c : ℕ) → IsFirstRecursive uses c → first_recursive uses ≡ Some c
unfolding first_recursive
is_recursive uses c is = found_at (if_recursive uses) c (length uses) c is.within
    (none_below (if_recursive uses) c (λ b less. if_none uses b (is.before b less)))
    (ap (λ (b : Bool). if b then Some c else None) is.recursive)
