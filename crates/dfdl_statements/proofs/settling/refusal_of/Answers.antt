use Rattle.dfdl_statements.proofs.Refused.{at_place, past_end, refused_at_place, refused_past}
use Rattle.dfdl_statements.proofs.settling.refusal_of.Goals as goal

pub returns-in-Some : goal.returns-in-Some
returns-in-Some c = λ read reads.
    refused_at_place read c.args.sight.now c.args.written.now c.args.standing.statement c.args.standing.place c.refusal_by.result c.in-Some.written.now
    (at_place c.args.written.now c.args.standing.statement c.in-Some.written.now c.in-Some.ensures.lookup.0 c.in-Some.ensures.lookup.1)
    (c.refusal_by.ensures read reads)

pub returns-in-None : goal.returns-in-None
returns-in-None c = λ read reads.
    refused_past read c.args.sight.now c.args.written.now c.args.standing.statement c.args.standing.place
    (past_end c.args.written.now c.args.standing.statement c.in-None.ensures.lookup.0)
