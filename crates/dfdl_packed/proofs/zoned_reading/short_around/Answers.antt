use Rattle.std.proofs.Common.{refl}
use Rattle.dfdl_packed.proofs.zoned_reading.short_around.Goals as goal

pub returns : goal.returns
returns c =
    let was = c.in_ok-negative.was in
    let front = c.in_ok-front.ensures.number in
    let rest = rw (c.from.ensures, front.1) at c.in_ok-number.ensures.number in
    rw (was, front.0, rest.0) (refl, rw rest.1 at c.of-size.ensures)
