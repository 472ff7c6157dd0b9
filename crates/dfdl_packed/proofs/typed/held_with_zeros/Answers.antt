use Rattle.std.proofs.Common.{◌^◌, ◌≤◌, arith}
use Rattle.dfdl_packed.proofs.Powers.{self_le}
use Rattle.dfdl_packed.proofs.typed.held_with_zeros.Goals as goal

pub returns-in-None : goal.returns-in-None
returns-in-None c = λ n held.
    let large : 2 ^ 128 ≤ n = rw c.in-None.is at held in
    omega (arith, self_le n c.args.zeros)
