use Rattle.std.proofs.Common.{◌≡◌, ℕ, ◌+◌, ◌≤◌, true, take}
use Rattle.dfdl_packed.specs.Sizes.{Shows}
use Rattle.dfdl_packed.specs.Zoned.{are_plain, number_behind}
use Rattle.dfdl_packed.proofs.zoned_reading.plain.Given as goal

abbrev pub invariant-loop-char : goal.invariant-loop-char
invariant-loop-char l = record {
  plain : are_plain (take l.char-index l.chars) ≡ true;
  shows : (n : ℕ) → Shows l.fn.front n → Shows l.size (number_behind n (take l.char-index l.chars));
  zeros : l.size.zeros ≤ l.fn.front.zeros + l.char-index;
}
