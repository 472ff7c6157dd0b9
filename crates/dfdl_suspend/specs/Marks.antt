-- Where unknowns stand, and the list of those that are ready.
use Rattle.std.specs.Prelude.{◌≡◌, ℕ, ◌==◌, true, Some, List, map, if◌then◌else◌}
use Rattle.std.specs.List.{slice_get, IsDistinct}
use Rattle.dfdl_suspend.specs.Asks.{is_in}
use Rattle.dfdl_suspend.specs.declared.mark.Mark.{Mark}
use Rattle.dfdl_suspend.specs.declared.mark.Mark.TheVariants.{Ready, Done, Waits, Faulty}

-- each ready unknown has exactly one place in a list
pub record IsReadyList (marks : List Mark) (ready : List ℕ) : Type 0 where
  pub apart : IsDistinct (λ (a b : ℕ). a == b) ready
  pub each : (cell : ℕ) → is_in cell ready ≡ true → slice_get marks cell ≡ Some Ready
  pub every : (cell : ℕ) → slice_get marks cell ≡ Some Ready → is_in cell ready ≡ true

-- who waits for an unknown is ready once it has a value
abbrev pub woken : ℕ → Mark → Mark
woken cell Ready = Ready
woken cell Done = Done
woken cell (Waits other) = if cell == other then Ready else Waits other
woken cell (Faulty cause) = Faulty cause

-- the marks after an unknown got a value
abbrev pub all_woken : ℕ → List Mark → List Mark
all_woken cell marks = map (woken cell) marks
