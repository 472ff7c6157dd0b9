use Rattle.std.proofs.Common.{refl}
use Rattle.dfdl_statements.proofs.Made.{told_made, told_refused}
use Rattle.dfdl_statements.proofs.settling.made_at.Goals as goal

pub returns-in-Ok-clause-answer : goal.returns-in-Ok-clause-answer
returns-in-Ok-clause-answer c = λ read reads.
    told_made read c.args.sight.now c.args.written c.args.place c.statics-statics.result c.in-Ok.statement c.statics-statics.ensures (c.in-Ok.ensures.answer read reads)

pub returns-in-Err-clause-answer : goal.returns-in-Err-clause-answer
returns-in-Err-clause-answer c = λ read reads.
    c.refused.ensures c.args.written _ refl
    (told_refused read c.args.sight.now c.args.written c.args.place c.statics-statics.result c.in-Err.fault c.statics-statics.ensures (c.in-Err.ensures.answer read reads))
