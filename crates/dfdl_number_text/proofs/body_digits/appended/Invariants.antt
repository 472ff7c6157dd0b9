use Rattle.std.proofs.Common.{◌≡◌, ◌<◌, ◌^◌, drop, filter}
use Rattle.std.specs.Char.{is_ascii_digit}
use Rattle.dfdl_value.specs.Texts.{number_after}
use Rattle.dfdl_number_text.proofs.body_digits.appended.Given as goal

abbrev pub invariant-loop-c : goal.invariant-loop-c
invariant-loop-c l = record {
  fits : l.number < 2 ^ 128;
  rest : number_after l.number (filter is_ascii_digit (drop l.c-index l.text)) ≡ number_after l.fn.number (filter is_ascii_digit l.fn.text);
}
