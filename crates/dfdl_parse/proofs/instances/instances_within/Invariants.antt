use Rattle.std.proofs.Common.{◌≡◌, ◌≤◌, take}
use Rattle.std.specs.List.{count_by}
use Rattle.dfdl_grammar.specs.States.{is_instance}
use Rattle.dfdl_parse.proofs.instances.instances_within.Given as goal

-- those so far are counted
abbrev pub invariant-loop-number : goal.invariant-loop-number
invariant-loop-number l = record {
  few : l.count ≤ l.number;
  counted : l.count ≡ count_by is_instance (take l.number l.terms.rows);
}
