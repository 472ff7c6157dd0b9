use Rattle.std.proofs.Common.{◌∙◌, Global, Ok, subst, sym}
use Rattle.std.proofs.lemmas.Slice.Zip.{AllZip-long}
use Rattle.dfdl_statements.specs.Making.{IsMadeOf}
use Rattle.dfdl_written.specs.Noting.{IsAsNoted}
use Rattle.dfdl_compile.specs.Faults.{IsSettledFault}
use Rattle.dfdl_compile.proofs.Finishing.{settles_so, statements_fault}
use Rattle.dfdl_compile.proofs.Written.{all_as_written}
use Rattle.dfdl_compile.proofs.settling.settle_with.Goals as goal

pub returns-in-Ok-clause-settled : goal.returns-in-Ok-clause-settled
returns-in-Ok-clause-settled c = λ laid rows_are refused_is noted_are.
    settles_so c.args.schema.now laid c.args.rows.now c.args.noted.items c.args.sight.now c.in_ok-written.written.items c.args.refused c.given_of.result (Ok c.in-Ok.statements.items)
    rows_are refused_is c.given_of.ensures noted_are
    c.requires.sees c.in_ok-written.ensures c.in-Ok.ensures.answer

pub returns-in-Ok-clause-counted : goal.returns-in-Ok-clause-counted
returns-in-Ok-clause-counted c =
    AllZip-long IsMadeOf c.in_ok-written.written.items c.in-Ok.statements.items c.in-Ok.ensures.made
    ∙ AllZip-long (IsAsNoted c.args.schema.now) c.args.noted.items c.in_ok-written.written.items c.in_ok-written.ensures

pub returns-in-Ok-clause-written : goal.returns-in-Ok-clause-written
returns-in-Ok-clause-written c =
    all_as_written c.args.schema.now c.args.noted.items c.in_ok-written.written.items c.in-Ok.statements.items c.in_ok-written.ensures c.in-Ok.ensures.made

pub returns-clause-fault : goal.returns-clause-fault
returns-clause-fault c = λ laid rows_are refused_is noted_are.
    subst (IsSettledFault c.args.schema.now laid) (sym c.statement_fault.ensures)
    (statements_fault c.args.schema.now Global laid c.args.rows.now c.args.noted.items c.args.sight.now c.in_ok-written.written.items
    c.args.refused c.given_of.result c.in-Err.fault rows_are refused_is c.given_of.ensures noted_are
    c.requires.sees c.in_ok-written.ensures c.in-Err.ensures.answer)
