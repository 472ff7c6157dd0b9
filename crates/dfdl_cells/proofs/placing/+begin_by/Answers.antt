use Rattle.std.proofs.Common.{◌-◌, ℕ, List, Option, Result, option_copied, sym, ap, ◌∙◌, arith}
use denote.Ref.{Bor}
use Rattle.dfdl_cells.specs.Asking as asking
use Rattle.dfdl_cells.specs.declared.cell.Cell.{Cell}
use Rattle.dfdl_cells.specs.declared.asking.Stop.{Stop}
use Rattle.dfdl_cells.specs.declared.complex.Complex.{Complex}
use Rattle.dfdl_cells.proofs.Begins.{begin_more, begin_none, begin_zero}
use Rattle.dfdl_cells.proofs.placing.+begin_by.Goals as goal

pub returns-in_default : goal.returns-in_default
returns-in_default t c =
    begin_none c.args.book.now c.args.known.now c.args.most
    ∙ sym (ap (λ (o : Option (Bor Complex)). asking.begin_by c.args.book.now c.args.known.now c.args.most (option_copied o)) c.in_default.is)

pub returns-then-most-eq0 : goal.returns-then-most-eq0
returns-then-most-eq0 t c = begin_zero c.args.book.now c.args.known.now c.args.most (option_copied c.args.around) (omega (arith, c.if-most-eq0.true))

pub returns-in-Ok : goal.returns-in-Ok
returns-in-Ok t c =
    let more = begin_more c.args.book.now c.args.known.now c.args.most (c.args.most - 1) c.args.around c.complex.result c.in-Some.complex c.begin_by.result c.in-Some.is
    (omega (arith, c.if-most-eq0.false)) c.begin_by.ensures c.complex.ensures in
    c.led.ensures
    ∙ (ap (λ (cells : List Cell). asking.led cells c.args.known.now c.in-Some.complex.now c.in-Ok.begin) c.cells.ensures
    ∙ (sym (ap (λ (r : Result ℕ Stop). asking.onward r (λ n. asking.led c.args.book.now.cells c.args.known.now c.in-Some.complex.now n)) c.in-Ok.is) ∙ sym more))

pub returns-in-Err : goal.returns-in-Err
returns-in-Err t c =
    let more = begin_more c.args.book.now c.args.known.now c.args.most (c.args.most - 1) c.args.around c.complex.result c.in-Some.complex c.begin_by.result c.in-Some.is
    (omega (arith, c.if-most-eq0.false)) c.begin_by.ensures c.complex.ensures in
    sym (ap (λ (r : Result ℕ Stop). asking.onward r (λ n. asking.led c.args.book.now.cells c.args.known.now c.in-Some.complex.now n)) c.in-Err.is) ∙ sym more
