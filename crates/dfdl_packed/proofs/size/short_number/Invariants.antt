use Rattle.std.proofs.Common.{◌≡◌, ◌+◌, ◌*◌, ◌^◌, ◌≤◌, true, take}
use Rattle.dfdl_packed.specs.Digits.{are_digits, digits_number}
use Rattle.dfdl_packed.proofs.size.short_number.Given as goal

abbrev pub invariant-loop-digit : goal.invariant-loop-digit
invariant-loop-digit l = record {
  digits : are_digits (take l.digit-index l.digits) ≡ true;
  number : l.number ≡ digits_number (take l.digit-index l.digits);
  small : l.number + 1 ≤ 1 * 10 ^ l.digit-index;
}
