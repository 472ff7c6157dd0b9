use Rattle.std.proofs.Common.{OnOk, OnErr, sym, subst}
use Rattle.dfdl_edge.specs.Sink.{Adds, AddsFront}
use Rattle.dfdl_run.specs.Answer.{answer_bytes}
use Rattle.dfdl_run.specs.declared.answer.Answer.{Answer}
use Rattle.dfdl_run.proofs.delivery.write_answer.Goals as goal

pub returns-in-NotUnparsed-clause-ok : goal.returns-in-NotUnparsed-clause-ok
returns-in-NotUnparsed-clause-ok g c =
    subst (λ (a : Answer). OnOk c.write_pieces-in-NotUnparsed.result (Adds (g.K.Sink.seen c.args.out.now).taken (answer_bytes a) (g.K.Sink.seen c.write_pieces-in-NotUnparsed.new.out).taken))
    (sym c.in-NotUnparsed.is) c.write_pieces-in-NotUnparsed.ensures.ok

pub returns-in-NotUnparsed-clause-err : goal.returns-in-NotUnparsed-clause-err
returns-in-NotUnparsed-clause-err g c =
    subst (λ (a : Answer). OnErr c.write_pieces-in-NotUnparsed.result (AddsFront (g.K.Sink.seen c.args.out.now).taken (answer_bytes a) (g.K.Sink.seen c.write_pieces-in-NotUnparsed.new.out).taken))
    (sym c.in-NotUnparsed.is) c.write_pieces-in-NotUnparsed.ensures.err
