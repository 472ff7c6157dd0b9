use Rattle.std.proofs.Common.{◌≡◌, ◌<◌, ◌^◌, drop}
use Rattle.dfdl_number_text.proofs.BodyDigits.{behind}
use Rattle.dfdl_number_text.proofs.read_base.held.Given as goal

abbrev pub invariant-loop-c : goal.invariant-loop-c
invariant-loop-c l = record {
  fits : l.number < 2 ^ 128;
  rest : behind l.base l.number (drop l.c-index l.digits) ≡ behind l.base 0 l.digits;
}
