use Rattle.std.proofs.Common.{sym, ap, option_map}
use Rattle.std.specs.String.{string_bytes}
use Rattle.dfdl_expression_types.proofs.Keys.{no_key}
use Rattle.dfdl_expression_types.proofs.statics.namespace_of.Goals as goal

pub returns-in-Err : goal.returns-in-Err
returns-in-Err c = sym (ap (option_map string_bytes) (no_key c.args.statics.now.prefixes.now c.args.prefix.now c.in-Err.ensures.cases.0))
