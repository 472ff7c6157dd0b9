use Rattle.dfdl_statements.proofs.Kinded.{opened_target_told}
use Rattle.dfdl_statements.proofs.making.opening_told.Goals as goal

pub returns-in-Some : goal.returns-in-Some
returns-in-Some c = λ read reads.
    opened_target_told read c.args.statics.now c.start_told.result c.args.text.now c.args.variable c.in-Some.target c.in-Some.is (c.start_told.ensures read reads)
