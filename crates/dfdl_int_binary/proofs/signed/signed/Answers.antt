use Rattle.std.proofs.Common.{◌-◌, ◌^◌, ◌<◌, arith}
use Rattle.std.proofs.lemmas.Int.{ints}
use Rattle.std.proofs.lemmas.Bool.Decides.{nat_tests}
use Rattle.dfdl_int_binary.proofs.Powers.{half_is, half_small}
use Rattle.dfdl_int_binary.proofs.signed.signed.Goals as goal

pub overflow_cast-result : goal.overflow_cast-result
overflow_cast-result c = omega (arith, ints, half_is c.args.bits c.requires.some c.requires.few, half_small c.args.bits c.requires.few)

pub returns-then-number-bits : goal.returns-then-number-bits
returns-then-number-bits c =
    let below : c.args.number < 2 ^ (c.args.bits - 1) = omega (arith, half_is c.args.bits c.requires.some c.requires.few) in
    let few : c.args.number < 2 ^ 127 = omega (arith, half_small c.args.bits c.requires.few) in
    grind (arith, ints, nat_tests)
