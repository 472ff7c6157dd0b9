use Rattle.std.proofs.Common.{◌≡◌, ◌+◌, ◌-◌, ◌≤◌}
use Rattle.dfdl_planning.specs.Planned.{computing_from}
use Rattle.dfdl_planning.proofs.outlines.are_computing.Given as goal

abbrev pub invariant-loop-at : goal.invariant-loop-at
invariant-loop-at l = record {
  few : l.at ≤ l.statements.count;
  same : computing_from l.source (l.statements.first + l.at) (l.statements.count - l.at)
      ≡ computing_from l.source l.statements.first l.statements.count;
}

abbrev pub decreases-loop-at : goal.decreases-loop-at
decreases-loop-at l = l.statements.count - l.at
