use Rattle.std.proofs.Common.{◌≡◌}
use Rattle.dfdl_order.specs.Parts.{Places}
use Rattle.dfdl_rows.specs.Looking.{AreKnown}
use Rattle.dfdl_rows.proofs.refusals.element_refusals.Given as goal

abbrev pub invariant-loop-number : goal.invariant-loop-number
invariant-loop-number l =
    (order : Places) × (l.number-items ≡ order.list) × AreKnown l.components l.idle l.refusals.items order l.number-index
