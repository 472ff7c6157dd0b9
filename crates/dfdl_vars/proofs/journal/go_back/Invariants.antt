use Rattle.std.proofs.Common.{◌≡◌, ◌≤◌, take, drop, vec_capacity, vec_len}
use Rattle.dfdl_vars.specs.Instances.{cleared}
use Rattle.dfdl_vars.proofs.journal.go_back.Given as goal

-- what is left to take back gives what all would
abbrev pub invariant-back : goal.invariant-back
invariant-back l = record {
  back : cleared (drop l.count l.changes.items) l.instances.items ≡ cleared (drop l.count l.fn.changes.items) l.fn.instances.items;
  kept : take l.count l.changes.items ≡ take l.count l.fn.changes.items;
  room : vec_capacity l.fn.instances ≤ vec_capacity l.instances;
  room_too : vec_capacity l.fn.changes ≤ vec_capacity l.changes;
}

abbrev pub decreases-back : goal.decreases-back
decreases-back l = vec_len l.changes
