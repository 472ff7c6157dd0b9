use Rattle.std.proofs.Common.{◌≡◌, ◌≤◌, ◌++◌, length, drop, vec_capacity}
use Rattle.dfdl_vars.specs.Kept.{all_defined}
use Rattle.dfdl_vars.proofs.keeping.define.Given as goal

-- the instances so far, and those of the definitions that are left
abbrev pub invariant-defining : goal.invariant-defining
invariant-defining l = record {
  count : length l.instances.items ≡ l.var;
  rest : l.instances.items ++ all_defined l.var (drop l.var l.definitions) ≡ all_defined 0 l.definitions;
  room : vec_capacity l.fn.instances ≤ vec_capacity l.instances;
}
