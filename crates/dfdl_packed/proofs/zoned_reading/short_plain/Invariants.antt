use Rattle.std.proofs.Common.{◌≡◌, ◌+◌, ◌*◌, ◌^◌, ◌≤◌, true, take}
use Rattle.dfdl_packed.specs.Zoned.{are_plain, number_behind}
use Rattle.dfdl_packed.proofs.zoned_reading.short_plain.Given as goal

abbrev pub invariant-loop-char : goal.invariant-loop-char
invariant-loop-char l = record {
  plain : are_plain (take l.char-index l.chars) ≡ true;
  number : l.number ≡ number_behind l.fn.front (take l.char-index l.chars);
  small : l.number + 1 ≤ (l.fn.front + 1) * 10 ^ l.char-index;
}
