use Rattle.std.proofs.Common.{refl}
use Rattle.dfdl_statements.proofs.settling.unused_of.Goals as goal

pub returns-in-Err-clause-answer : goal.returns-in-Err-clause-answer
returns-in-Err-clause-answer c = c.refused.ensures c.args.written _ refl c.in-Err.ensures.answer
