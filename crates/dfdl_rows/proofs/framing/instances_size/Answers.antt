use Rattle.std.proofs.Common.{None, ap, arith}
use Rattle.dfdl_rows.specs.Framing.{framing_size}
use Rattle.dfdl_rows.proofs.framing.instances_size.Goals as goal

pub returns-clause-size : goal.returns-clause-size
returns-clause-size c =
    omega (
      arith,
      c.framing_size-inside.ensures.size,
      ap (λ f. framing_size f c.args.separators) c.untested.ensures,
      c.from.ensures,
      c.framing_size-tests.ensures.size,
      ap (λ f. framing_size f None) c.tests_alone.ensures,
    )
