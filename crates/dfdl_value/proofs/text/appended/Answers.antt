use Rattle.std.proofs.Common.{arith}
use Rattle.dfdl_value.proofs.TextLemmas.{number_after-drop_ge}
use Rattle.dfdl_value.proofs.text.appended.Goals as goal

pub returns-in_err-shifted : goal.returns-in_err-shifted
returns-in_err-shifted c =
    let least = number_after-drop_ge _ _ _ _ c.loop-digit-test.true c.loop-digit.invariant.rest in
    rw c.from_residual.ensures (λ fits. c.in_err-shifted.ensures (omega (arith, least, fits)))

pub returns-in_err-number : goal.returns-in_err-number
returns-in_err-number c =
    let least = number_after-drop_ge _ _ _ _ c.loop-digit-test.true c.loop-digit.invariant.rest in
    rw c.from_residual-in_err-number.ensures (λ fits. c.in_err-number.ensures (omega (arith, least, fits)))
