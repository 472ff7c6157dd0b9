use Rattle.std.proofs.Common.{sym}
use Rattle.dfdl_expression_types.proofs.Keys.{no_key}
use Rattle.dfdl_expression_types.proofs.statics.variable_named.Goals as goal

pub returns-in-Err : goal.returns-in-Err
returns-in-Err c = sym (no_key c.args.statics.now.variables.now c.args.name.now c.in-Err.ensures.cases.0)
