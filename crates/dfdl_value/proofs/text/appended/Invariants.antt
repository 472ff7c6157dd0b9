use Rattle.std.proofs.Common.{◌≡◌, ◌^◌, ◌<◌, drop}
use Rattle.dfdl_value.specs.Texts.{number_after}
use Rattle.dfdl_value.proofs.text.appended.Given as goal

abbrev pub invariant-loop-digit : goal.invariant-loop-digit
invariant-loop-digit l = record {
  fits : l.number < 2 ^ 128;
  rest : number_after l.number (drop l.digit-index l.digits) ≡ number_after l.fn.number l.fn.digits;
}
