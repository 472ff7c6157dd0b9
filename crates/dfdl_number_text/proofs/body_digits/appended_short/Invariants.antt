use Rattle.std.proofs.Common.{◌≡◌, ◌≤◌, ◌+◌, ◌-◌, ◌*◌, ◌^◌, length, drop, filter}
use Rattle.std.specs.Char.{is_ascii_digit}
use Rattle.dfdl_value.specs.Texts.{number_after}
use Rattle.dfdl_number_text.proofs.body_digits.appended_short.Given as goal

abbrev pub invariant-loop-c : goal.invariant-loop-c
invariant-loop-c l = record {
  small : (l.number + 1) * 10 ^ (length l.text - l.c-index) ≤ (l.fn.number + 1) * 10 ^ length l.fn.text;
  rest : number_after l.number (filter is_ascii_digit (drop l.c-index l.text)) ≡ number_after l.fn.number (filter is_ascii_digit l.fn.text);
}
