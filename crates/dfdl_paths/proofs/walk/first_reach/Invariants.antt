use Rattle.std.proofs.Common.{◌≡◌, ◌≤◌, Some, drop}
use Rattle.dfdl_paths.specs.declared.place.Place.{Place}
use Rattle.dfdl_paths.specs.Leads.{follow, only_at}
use Rattle.dfdl_paths.proofs.walk.first_reach.Given as goal

-- the steps so far lead to one place
abbrev pub invariant-loop-at : goal.invariant-loop-at
invariant-loop-at l = record {
  few : l.used ≤ l.at;
  same : (q : Place) → follow l.names l.nodes (only_at (Some l.fn.begin)) l.steps l.indexes q
      ≡ follow l.names l.nodes (only_at (Some l.place)) (drop l.at l.steps) (drop l.used l.indexes) q;
}
