use Rattle.std.proofs.Common.{◌≤◌, ◌-◌, arith}
use Rattle.std.proofs.Math.Pow.{pow_mono}
use Rattle.dfdl_writings.proofs.prefixes.half_of.Goals as goal

pub returns-clause-few : goal.returns-clause-few
returns-clause-few c =
    let fewer : c.args.bits - 1 ≤ 127 = omega arith in
    omega (arith, pow_mono fewer)
