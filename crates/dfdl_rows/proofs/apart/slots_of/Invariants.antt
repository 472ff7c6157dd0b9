use Rattle.std.proofs.Common.{◌≡◌, ◌++◌, drop}
use Rattle.dfdl_rows.specs.Apart.{slots_from}
use Rattle.dfdl_rows.proofs.apart.slots_of.Given as goal

abbrev pub invariant-loop-at : goal.invariant-loop-at
invariant-loop-at l = l.made.items ++ slots_from l.parts (drop l.at l.slots) l.at ≡ slots_from l.parts l.slots 0
