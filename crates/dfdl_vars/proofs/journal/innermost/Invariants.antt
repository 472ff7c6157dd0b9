use Rattle.std.proofs.Common.{◌≡◌, ◌≤◌, ◌-◌, length}
use Rattle.dfdl_vars.specs.Kept.{innermost}
use Rattle.dfdl_vars.proofs.journal.innermost.Given as goal

-- none of those behind the place is one of the variable
abbrev pub invariant-seeking : goal.invariant-seeking
invariant-seeking l = record {
  from : l.globals ≤ l.place;
  same : innermost l.instances l.globals l.var (l.place - l.globals) ≡ innermost l.instances l.globals l.var (length l.instances - l.globals);
}
