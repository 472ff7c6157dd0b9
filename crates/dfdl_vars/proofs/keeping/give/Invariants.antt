use Rattle.std.proofs.Common.{◌≡◌, ◌≤◌, drop, vec_capacity}
use Rattle.dfdl_vars.specs.Kept.{all_given}
use Rattle.dfdl_vars.proofs.keeping.give.Given as goal

-- what is left to give leads to the same
abbrev pub invariant-giving : goal.invariant-giving
invariant-giving l = record {
  rest : all_given (drop l.at l.given) l.instances.items ≡ all_given l.given l.fn.instances.items;
  room : vec_capacity l.fn.instances ≤ vec_capacity l.instances;
}
