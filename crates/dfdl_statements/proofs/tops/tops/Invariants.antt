use Rattle.std.proofs.Common.{◌≡◌}
use Rattle.dfdl_statements.specs.Elements.{tops_of}
use Rattle.dfdl_statements.proofs.tops.tops.Given as goal

abbrev pub invariant-loop-number : goal.invariant-loop-number
invariant-loop-number l = l.table.items ≡ tops_of l.rows l.number
