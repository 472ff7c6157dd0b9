use Rattle.std.proofs.Common.{drop}
use Rattle.dfdl_delims.specs.Candidates.{Adding, begun_each}
use Rattle.dfdl_delims.proofs.step.add_each.Given as goal

-- the characters that are left are still to be added
abbrev pub invariant-loop-c : goal.invariant-loop-c
invariant-loop-c l = Adding l.fn.into.items (begun_each l.characters l.byte l.next) l.into.items (begun_each (drop l.c-index l.characters) l.byte l.next)
