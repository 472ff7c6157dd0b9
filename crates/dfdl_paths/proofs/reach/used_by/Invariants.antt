use Rattle.std.proofs.Common.{◌≡◌, ◌≤◌, ℕ, List, drop, take}
use Rattle.dfdl_paths.specs.Spans.{behind_all}
use Rattle.dfdl_paths.proofs.reach.used_by.Given as goal

-- the indexes of the steps so far
abbrev pub invariant-loop-at : goal.invariant-loop-at
invariant-loop-at l = record {
  few : l.used ≤ l.at;
  behind : (indexes : List ℕ) → behind_all (take l.at l.steps) indexes ≡ drop l.used indexes;
}
