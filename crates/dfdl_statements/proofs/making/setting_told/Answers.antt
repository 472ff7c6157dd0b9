use Rattle.dfdl_statements.proofs.Kinded.{target_told}
use Rattle.dfdl_statements.proofs.making.setting_told.Goals as goal

pub returns-in-Some : goal.returns-in-Some
returns-in-Some c = λ read reads.
    target_told read c.args.statics.now c.told.result c.args.text.now c.args.variable c.in-Some.target c.setting.result c.in-Some.is
    (c.setting.ensures read reads) c.told.ensures
