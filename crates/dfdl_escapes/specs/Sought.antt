-- Mirror for the prover: what the search for markup in a text keeps.
use Rattle.std.specs.Prelude.{◌≡◌, ℕ, ◌≤◌, List, length}
use Rattle.dfdl_bits.specs.Window.{Held}

-- the window holds these bytes, from the first one on
pub record HoldsAll (held : Held) (bytes : List ℕ) : Type 0 where
  pub all : held.bytes ≡ bytes
  pub base : held.base ≡ 0
  pub fits : length bytes ≤ held.size
