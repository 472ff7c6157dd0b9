use Rattle.std.proofs.Common.{◌≡◌, drop}
use Rattle.std.specs.Prelude.{reverse}
use Rattle.dfdl_grammar.specs.States.{held_from}
use Rattle.dfdl_parse.proofs.marks.first_held.Given as goal

abbrev pub invariant-loop-mark : goal.invariant-loop-mark
invariant-loop-mark l = held_from (reverse (drop l.mark-index l.marks)) l.bit ≡ held_from (reverse l.marks) l.bit
