use Rattle.std.proofs.Common.{◌+◌, ◌-◌, ◌≤◌, arith}
use Rattle.std.proofs.Math.Nat.{pow-le-pow_right, le_trans}
use Rattle.dfdl_packed.proofs.scaled.integer_of.Goals as goal

pub returns-in-Fixed-Dec-clause-small : goal.returns-in-Fixed-Dec-clause-small
returns-in-Fixed-Dec-clause-small c =
    let less : 39 + (c.args.point - c.scale-in-Fixed-Dec.result) ≤ 39 + c.args.point = omega arith in
    le_trans c.signed-in-Fixed-Dec.ensures.small (pow-le-pow_right {n = 10} (omega arith) less)
