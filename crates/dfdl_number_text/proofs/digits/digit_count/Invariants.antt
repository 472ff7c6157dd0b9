use Rattle.std.proofs.Common.{◌≡◌, ◌-◌, ◌/◌, ◌^◌, ◌<◌, ◌≤◌}
use Rattle.dfdl_number_text.proofs.digits.digit_count.Given as goal

abbrev pub invariant-loop-rest : goal.invariant-loop-rest
invariant-loop-rest l = record {
  rest : l.rest ≡ l.fn.number / l.fn.base ^ l.count;
  above : 0 < l.count → l.fn.base ^ (l.count - 1) ≤ l.fn.number;
  few : l.count ≤ 128;
}

abbrev pub decreases-loop-rest : goal.decreases-loop-rest
decreases-loop-rest l = l.rest
