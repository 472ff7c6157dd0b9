use Rattle.std.proofs.Common.{arith}
use Rattle.dfdl_number_text.proofs.RoundingLemmas.{power_small, fraction_fits, exact_parts}
use Rattle.dfdl_number_text.proofs.rounding.exact.Goals as goal

pub overflow_mul-result : goal.overflow_mul-result
overflow_mul-result c =
    rw (c.power_of-power.ensures.value, c.power_of.ensures.value)
    (omega (arith, fraction_fits c.args.magnitude c.args.scale c.args.places c.requires.fits, power_small c.args.places c.requires.places))

pub returns-clause-size : goal.returns-clause-size
returns-clause-size c = rw (c.power_of-power.ensures.value, c.power_of.ensures.value) (exact_parts c.args.magnitude c.args.scale c.args.places c.requires.fits)

pub returns-clause-fraction : goal.returns-clause-fraction
returns-clause-fraction c = rw (c.power_of-power.ensures.value, c.power_of.ensures.value) (fraction_fits c.args.magnitude c.args.scale c.args.places c.requires.fits)
