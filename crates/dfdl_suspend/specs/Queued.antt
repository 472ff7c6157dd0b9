-- What contracts see of the unknowns that were added to a board.
use Rattle.std.specs.Prelude.{ℕ, List}
use Rattle.dfdl_suspend.specs.declared.mark.Mark.{Mark}

-- the mark of each unknown, those that are ready, and for how many memory was taken
pub record Queued : Type 0 where
  pub marks : List Mark
  pub ready : List ℕ
  pub room : ℕ
