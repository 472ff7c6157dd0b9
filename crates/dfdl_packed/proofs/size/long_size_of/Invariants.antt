use Rattle.std.proofs.Common.{◌≡◌, ◌≤◌, true, take}
use Rattle.dfdl_packed.specs.Digits.{are_digits, digits_number}
use Rattle.dfdl_packed.specs.Sizes.{Shows}
use Rattle.dfdl_packed.proofs.size.long_size_of.Given as goal

abbrev pub invariant-loop-digit : goal.invariant-loop-digit
invariant-loop-digit l = record {
  digits : are_digits (take l.digit-index l.digits) ≡ true;
  shows : Shows l.size (digits_number (take l.digit-index l.digits));
  zeros : l.size.zeros ≤ l.digit-index;
}
