use Rattle.std.proofs.Common.{ap, ◌∙◌}
use Rattle.dfdl_checks.specs.Lengths.{unit_of}
use Rattle.dfdl_checks.proofs.lengths.unit_bits.Goals as goal

pub returns-clause-unit : goal.returns-clause-unit
returns-clause-unit c = c.unit_of.ensures.unit ∙ ap unit_of c.is_word.ensures
