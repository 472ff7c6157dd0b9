use Rattle.dfdl_statements.proofs.Kinded.{bare_made, start_made}
use Rattle.dfdl_statements.proofs.making.opening_with.Goals as goal

pub returns-in-Some : goal.returns-in-Some
returns-in-Some c = λ read reads.
    start_made read c.args.statics.now c.opening_of.result c.args.text.now c.in-Some.text c.as_str.result.now c.args.target c.setting.result c.in-Some.is
    c.as_str.ensures (c.setting.ensures read reads) c.opening_of.ensures

pub returns-in-None : goal.returns-in-None
returns-in-None c = λ read reads.
    bare_made read c.args.statics.now c.bare_opening.result c.args.text.now c.args.target c.in-None.is c.bare_opening.ensures
