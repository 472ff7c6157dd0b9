use Rattle.std.proofs.Common.{◌≡◌}
use Rattle.dfdl_statements.specs.Elements.{name_numbers_of}
use Rattle.dfdl_statements.proofs.names.name_numbers.Given as goal

abbrev pub invariant-loop-number : goal.invariant-loop-number
invariant-loop-number l = l.numbers.items ≡ name_numbers_of l.rows l.number
