use Rattle.std.proofs.Common.{sym, arith}
use Rattle.dfdl_number_text.proofs.RoundingLemmas.{rounded_whole, rounded_by}
use Rattle.dfdl_number_text.proofs.rounding.size_of.Goals as goal

pub returns-then-number-places : goal.returns-then-number-places
returns-then-number-places c =
    let number = c.args.number in
    rw (rounded_whole c.args.mode number.negative number.magnitude number.scale c.args.places c.if-number-places.true)
    (record { value = c.exact.ensures.size; fraction = c.exact.ensures.fraction })

pub returns-in-Some : goal.returns-in-Some
returns-in-Some c =
    let number = c.args.number in
    let by = rounded_by c.args.mode number.negative number.magnitude number.scale c.args.places c.divisor_of-divisor.result
    (omega arith) (c.requires.few (omega arith)) c.divisor_of-divisor.ensures.exact c.divisor_of-divisor.ensures.large in
    rw (sym by, sym c.in-Some.ensures) (record { value = c.divided.ensures.size; fraction = c.divided.ensures.fraction })

pub returns-in-None : goal.returns-in-None
returns-in-None c =
    let number = c.args.number in
    let by = rounded_by c.args.mode number.negative number.magnitude number.scale c.args.places c.divisor_of-divisor.result
    (omega arith) (c.requires.few (omega arith)) c.divisor_of-divisor.ensures.exact c.divisor_of-divisor.ensures.large in
    rw (sym by, sym c.in-None.ensures) tt
