use Rattle.std.proofs.Common.{subst, sym}
use Rattle.dfdl_statements.specs.Settled.{made_where}
use Rattle.dfdl_statements.specs.SettledShown.{SettlesOne}
use Rattle.dfdl_statements.proofs.settling.made_where.Goals as goal

pub returns-in-Some-clause-answer : goal.returns-in-Some-clause-answer
returns-in-Some-clause-answer c = λ read reads.
    subst (λ o. SettlesOne c.args.written (made_where read c.args.sight.now c.args.written o) c.made_at.result) (sym c.in-Some.is)
    (c.made_at.ensures.answer read reads)
