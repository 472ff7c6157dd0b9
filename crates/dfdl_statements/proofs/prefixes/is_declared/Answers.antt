use Rattle.std.proofs.Common.{ap, is_some, option_map, sym}
use Rattle.std.specs.String.{string_bytes}
use Rattle.dfdl_statements.proofs.Keys.{no_key}
use Rattle.dfdl_statements.proofs.prefixes.is_declared.Goals as goal

pub returns-in-Err : goal.returns-in-Err
returns-in-Err c =
    sym (ap (λ o. is_some (option_map string_bytes o)) (no_key c.args.statics.now.prefixes.now c.args.prefix.now c.in-Err.ensures.cases.0))
