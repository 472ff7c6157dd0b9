use Rattle.std.proofs.Common.{refl}
use Rattle.dfdl_packed.proofs.zoned_reading.long_around.Goals as goal

pub returns : goal.returns
returns c =
    let was = c.in_ok-negative.was in
    let front = c.in_ok-front.ensures.shows in
    let rest = c.in_ok-size.ensures.shows in
    rw (was, front.0, rest.0)
    (refl, rest.1 _ (c.then.ensures.shows _ (front.1 0 c.zero.ensures.shows)))
