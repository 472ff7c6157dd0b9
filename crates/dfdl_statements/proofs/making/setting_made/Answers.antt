use Rattle.dfdl_statements.proofs.Kinded.{target_made}
use Rattle.dfdl_statements.proofs.making.setting_made.Goals as goal

pub returns-in-Some : goal.returns-in-Some
returns-in-Some c = λ read reads.
    target_made read c.args.statics.now c.setting_of.result c.args.text.now c.args.variable c.in-Some.target c.setting.result c.in-Some.is
    (c.setting.ensures read reads) c.setting_of.ensures
