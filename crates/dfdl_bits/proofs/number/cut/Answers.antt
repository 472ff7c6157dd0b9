use Rattle.std.proofs.Common.{refl, ◌∙◌, ◌/◌, ◌^◌, arith}
use Rattle.dfdl_bits.proofs.Shifts.{and_low}
use Rattle.dfdl_bits.proofs.number.cut.Goals as goal

pub returns-clause-value : goal.returns-clause-value
returns-clause-value c = and_low 32 (c.from.result / 2 ^ c.args.low) c.args.len (omega arith) ∙ rw c.from.ensures refl
