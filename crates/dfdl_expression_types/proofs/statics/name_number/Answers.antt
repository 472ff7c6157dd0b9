use Rattle.std.proofs.Common.{sym}
use Rattle.dfdl_expression_types.proofs.Keys.{no_key}
use Rattle.dfdl_expression_types.proofs.statics.name_number.Goals as goal

pub returns-in-Err : goal.returns-in-Err
returns-in-Err c = sym (no_key c.args.statics.now.names.now c.args.local.now c.in-Err.ensures.cases.0)
