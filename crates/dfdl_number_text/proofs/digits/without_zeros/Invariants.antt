use Rattle.std.proofs.Common.{◌≡◌, ◌-◌, ◌≤◌}
use Rattle.dfdl_number_text.specs.Writing.{fraction_digits}
use Rattle.dfdl_number_text.proofs.digits.without_zeros.Given as goal

abbrev pub invariant-loop-count : goal.invariant-loop-count
invariant-loop-count l = record {
  digits : fraction_digits l.least l.places l.fraction ≡ fraction_digits l.least l.count l.number;
  least : l.least ≤ l.count;
  most : l.count ≤ l.places;
}

abbrev pub decreases-loop-count : goal.decreases-loop-count
decreases-loop-count l = l.count - l.least
