use Rattle.std.proofs.Common.{◌≡◌}
use Rattle.dfdl_statements.specs.Elements.{arounds_by}
use Rattle.dfdl_statements.proofs.tops.arounds.Given as goal

abbrev pub invariant-loop-element : goal.invariant-loop-element
invariant-loop-element l = l.table.items ≡ arounds_by l.rows l.element
