use Rattle.std.proofs.Common.{◌≤◌, ◌-◌}
use Rattle.dfdl_splice.specs.Copying.{Copies}
use Rattle.dfdl_splice.proofs.copy.copy_bits.Given as goal

abbrev pub invariant-loop-done : goal.invariant-loop-done
invariant-loop-done l = record {
  within : l.done ≤ l.count;
  copies : Copies l.order l.fn.to l.to l.at l.from l.begin l.done;
}

abbrev pub decreases-loop-done : goal.decreases-loop-done
decreases-loop-done l = l.count - l.done
