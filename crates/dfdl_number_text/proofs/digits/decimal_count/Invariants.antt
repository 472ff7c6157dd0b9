use Rattle.std.proofs.Common.{◌≡◌, ◌+◌, ◌-◌, ◌^◌, ◌<◌, ◌≤◌}
use Rattle.dfdl_number_text.proofs.digits.decimal_count.Given as goal

-- the number reaches each power below this one
abbrev pub invariant-loop-power : goal.invariant-loop-power
invariant-loop-power l = record {
  power : l.power ≡ 10 ^ l.count;
  above : 0 < l.count → 10 ^ (l.count - 1) ≤ l.number;
  few : l.count ≤ 18;
}

abbrev pub decreases-loop-power : goal.decreases-loop-power
decreases-loop-power l = l.number + 1 - l.power
