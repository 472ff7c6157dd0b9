-- Mirror for the prover: what is kept in memory that was taken once.
use Rattle.std.specs.Prelude.{ℕ, ◌+◌, ◌*◌, ◌≤◌, List, length}
use Rattle.dfdl_vars.specs.declared.instances.Change.{Change}
use Rattle.dfdl_vars.specs.declared.instances.Instance.{Instance}
use Rattle.dfdl_vars.specs.Kept.{Kept, IsSound}

abbrev pub kept_as : List Instance → List Change → ℕ → ℕ → Kept
kept_as instances changes globals deep = record { instances = instances; changes = changes; globals = globals; deep = deep }

-- there is room for as many instances as there may be, and for the changes in them
pub record HasRoom (instances : List Instance) (changes : List Change) (globals deep instances_room changes_room : ℕ) : Type 0 where
  pub whole : globals ≤ length instances
  pub few : length instances ≤ globals + deep
  pub room : globals + deep ≤ instances_room
  pub twice : 2 * (globals + deep) ≤ changes_room
  pub sound : IsSound instances changes
