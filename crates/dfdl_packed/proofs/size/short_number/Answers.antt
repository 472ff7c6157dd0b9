use Rattle.std.proofs.Common.{length, arith}
use Rattle.dfdl_packed.proofs.SizeLemmas.{digit_fits, few_fit}
use Rattle.dfdl_packed.proofs.size.short_number.Goals as goal

pub overflow_mul-number : goal.overflow_mul-number
overflow_mul-number c =
    let len = length c.args.digits.now in
    omega (arith, digit_fits 0 c.loop-digit.number c.loop-digit.digit-index len c.loop-digit.invariant.small c.loop-digit-test.true (few_fit len c.requires))

pub overflow_add-number : goal.overflow_add-number
overflow_add-number c =
    let len = length c.args.digits.now in
    omega (arith, digit_fits 0 c.loop-digit.number c.loop-digit.digit-index len c.loop-digit.invariant.small c.loop-digit-test.true (few_fit len c.requires))
