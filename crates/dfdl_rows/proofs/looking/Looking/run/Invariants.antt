use Rattle.std.proofs.Common.{◌≡◌}
use Rattle.std.specs.BTreeSet.{contains}
use Rattle.std.specs.Cmp.Lexicographic.{slice_cmp}
use Rattle.std.specs.Ordering.{nat_cmp}
use Rattle.dfdl_rows.specs.Looking.{AreReady, IsKept, looks_left, refusal_left, stand_of, visits}
use Rattle.dfdl_rows.proofs.looking.Looking.run.Given as goal

-- what is left has the same first refusal as what was to be looked at
abbrev pub invariant-loop-task : goal.invariant-loop-task
invariant-loop-task l = record {
  ready : AreReady l.components l.known.idle.now l.known.refusals.now (visits l.self.tasks.items);
  kept : IsKept (contains (λ x y. slice_cmp nat_cmp x.now y.now) l.self.names) (stand_of l.self.level l.self.outer.items);
  same : refusal_left l.components l.self.tasks.items (stand_of l.self.level l.self.outer.items)
      ≡ refusal_left l.components l.fn.self.tasks.items (stand_of l.fn.self.level l.fn.self.outer.items);
}

abbrev pub decreases-loop-task : goal.decreases-loop-task
decreases-loop-task l = looks_left l.components l.self.tasks.items
