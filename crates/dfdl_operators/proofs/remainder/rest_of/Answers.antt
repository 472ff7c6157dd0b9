use Rattle.std.proofs.Common.{◌*◌, ◌-◌, ◌^◌, ◌<◌, arith, rules}
use Rattle.dfdl_operators.proofs.DivisionLemmas.{some_longer, rest_short}
use Rattle.dfdl_operators.proofs.remainder.rest_of.Goals as goal

pub parted-requires : goal.parted-requires
parted-requires c = omega (arith, c.in-Some.ensures.1, some_longer c.args.right.magnitude (c.args.left.scale - c.args.right.scale) c.requires)

pub returns-in-None : goal.returns-in-None
returns-in-None c =
    let x = c.args.left in
    let y = c.args.right in
    let fits : x.magnitude < 2 ^ 128 = search rules in
    let less : x.magnitude < y.magnitude * 10 ^ (x.scale - y.scale) = omega (arith, fits, c.in-None.ensures) in
    rest_short x.magnitude y.magnitude x.scale y.scale (omega arith) less
