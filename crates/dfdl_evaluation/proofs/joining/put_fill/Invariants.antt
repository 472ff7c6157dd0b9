use Rattle.std.proofs.Common.{◌≡◌, ◌≤◌, ◌-◌, length}
use Rattle.dfdl_evaluation.specs.Filling.{Fills}
use Rattle.dfdl_evaluation.proofs.joining.put_fill.Given as goal

-- so many bits are filled
abbrev pub invariant-loop-done : goal.invariant-loop-done
invariant-loop-done l =
    (l.done ≤ l.count) × Fills l.order l.fn.bytes.items l.bytes.items l.at l.fill l.bit l.done × (length l.bytes.items ≡ length l.fn.bytes.items)

abbrev pub decreases-loop-done : goal.decreases-loop-done
decreases-loop-done l = l.count - l.done
