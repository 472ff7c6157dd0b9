use Rattle.std.proofs.Common.{◌≡◌, ◌++◌}
use Rattle.dfdl_writings.specs.Paddings.{repeated}
use Rattle.dfdl_writings.proofs.paddings.put_repeated.Given as goal

abbrev pub invariant-loop-at : goal.invariant-loop-at
invariant-loop-at l = l.into.items ≡ l.fn.into.items ++ repeated l.at l.bytes
