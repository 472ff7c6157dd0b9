use Rattle.std.proofs.Common.{Err, subst}
use Rattle.dfdl_terms.specs.declared.statement.Statement.{Statement}
use Rattle.dfdl_statements.specs.MakingShown.{Gives}
use Rattle.dfdl_statements.proofs.Made.{refused_there}
use Rattle.dfdl_statements.proofs.settling.refused.Goals as goal

pub returns-in-Cause : goal.returns-in-Cause
returns-in-Cause c = λ written due same given. (
  c.in-Cause.cause,
  subst (λ f. Gives {X = Statement} due (Err f)) c.in-Cause.is given,
  refused_there written c.in-Cause.cause c.args.at same,
)
