-- The walk along the list of those that wait.
use Rattle.std.proofs.Common.{◌≡◌, ℕ, ◌≤◌, List, length}
use Rattle.dfdl_suspend.specs.declared.mark.Mark.{Mark}
use Rattle.dfdl_suspend.specs.Marks.{IsReadyList, all_woken}
use Rattle.dfdl_suspend.specs.Queues.{IsWaking}

pub record GoesAlong (old now : List Mark) (ready next : List ℕ) (unknown at marks_old marks_new ready_old ready_new : ℕ) : Type 0 where
  pub waking : IsWaking now next unknown at
  pub readies : IsReadyList now ready
  pub same : all_woken unknown now ≡ all_woken unknown old
  pub long : length now ≡ length old
  pub marks_stay : marks_new ≡ marks_old
  pub ready_stay : ready_old ≤ ready_new
