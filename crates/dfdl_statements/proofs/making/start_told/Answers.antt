use Rattle.dfdl_statements.proofs.Kinded.{start_told}
use Rattle.dfdl_statements.proofs.making.start_told.Goals as goal

pub returns-in-Some : goal.returns-in-Some
returns-in-Some c = λ read reads.
    start_told read c.args.statics.now c.told.result c.args.text.now c.in-Some.text c.as_str.result.now c.args.target c.setting.result c.in-Some.is
    c.as_str.ensures (c.setting.ensures read reads) c.told.ensures
