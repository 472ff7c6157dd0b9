use Rattle.dfdl_statements.proofs.Compiled.{refused}
use Rattle.dfdl_statements.proofs.making.compiled.Goals as goal

pub returns-in-Err : goal.returns-in-Err
returns-in-Err c = λ found reading. refused c.args.statics.now c.args.wanted c.args.text.now found _ _ c.in-Err.ensures.place reading c.malformed.ensures
