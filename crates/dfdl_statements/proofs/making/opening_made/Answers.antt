use Rattle.dfdl_statements.proofs.Kinded.{opened_target}
use Rattle.dfdl_statements.proofs.making.opening_made.Goals as goal

pub returns-in-Some : goal.returns-in-Some
returns-in-Some c = λ read reads.
    opened_target read c.args.statics.now c.opening_with.result c.args.text.now c.args.variable c.in-Some.target c.in-Some.is (c.opening_with.ensures read reads)
