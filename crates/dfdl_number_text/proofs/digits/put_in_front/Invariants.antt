use Rattle.std.proofs.Common.{◌≡◌, ◌+◌, ◌/◌, ◌^◌, length}
use Rattle.dfdl_number_text.specs.Written.{IsInGroup, IsPut, digit_text}
use Rattle.dfdl_number_text.proofs.digits.put_in_front.Given as goal

-- the last digits stand between the place and the end
abbrev pub invariant-loop-behind : goal.invariant-loop-behind
invariant-loop-behind l = record {
  place : l.place + length (digit_text l.groups l.digits.base l.behind l.digits.number) ≡ l.end;
  rest : l.rest ≡ l.digits.number / l.digits.base ^ l.behind;
  group : IsInGroup l.groups.size l.behind l.in_group;
  put : IsPut l.fn.into l.place (digit_text l.groups l.digits.base l.behind l.digits.number) l.into;
}
