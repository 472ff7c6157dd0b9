use Rattle.std.proofs.Common.{sym, subst}
use Rattle.dfdl_splice.specs.Splicing.{Spliced}
use Rattle.dfdl_unparse.specs.Documents.{told}
use Rattle.dfdl_unparse.specs.Splices.{IsSpliced}
use Rattle.dfdl_unparse.proofs.Nexts.{told_unrun, told_other, awaits, spliced_now, longer_now, past_now, spliced_same, longer_same}
use Rattle.dfdl_unparse.proofs.Results.{copied_none, copied_some, if_held, on_ok_both}
use Rattle.dfdl_unparse.proofs.running.put_known.Goals as goal

pub returns-then-is_none-clause-spliced : goal.returns-then-is_none-clause-spliced
returns-then-is_none-clause-spliced g c = λ before dropped next.
    let unrun = told_unrun (g.D.Equations.unknowns c.args.document.now) _ _ before c.args.known.now c.args.cell dropped _ (g.met.D.Document.steady c.args.document.now) (g.met.D.Document.cells c.args.document.now) next
    (copied_none c.get.result _ c.if-is_none.ensures c.get.ensures) in
    spliced_same (g.D.Equations.unknowns c.args.document.now) _ _ before c.args.known.now c.args.cell dropped _ (g.met.D.Document.steady c.args.document.now) (g.met.D.Document.cells c.args.document.now) next unrun

pub returns-then-is_none-clause-longer : goal.returns-then-is_none-clause-longer
returns-then-is_none-clause-longer g c = λ before dropped next.
    let unrun = told_unrun (g.D.Equations.unknowns c.args.document.now) _ _ before c.args.known.now c.args.cell dropped _ (g.met.D.Document.steady c.args.document.now) (g.met.D.Document.cells c.args.document.now) next
    (copied_none c.get.result _ c.if-is_none.ensures c.get.ensures) in
    longer_same (g.D.Equations.unknowns c.args.document.now) _ _ before c.args.known.now c.args.cell dropped _ (g.met.D.Document.steady c.args.document.now) (g.met.D.Document.cells c.args.document.now) next unrun

pub put_piece-requires-clause-awaited : goal.put_piece-requires-clause-awaited
put_piece-requires-clause-awaited g c =
    awaits (g.D.Equations.unknowns c.args.document.now) _ _ c.requires.next.0 c.args.known.now c.args.cell c.requires.next.1 _ (g.met.D.Document.steady c.args.document.now) (g.met.D.Document.cells c.args.document.now) c.requires.next.2
    c.in-Some.piece c.in-Some.ensures (copied_some c.get.result _ c.if-is_none.ensures c.get.ensures)

pub returns-in-Some-clause-spliced : goal.returns-in-Some-clause-spliced
returns-in-Some-clause-spliced g c =
    on_ok_both c.put_piece.result (λ put room before dropped next.
    subst (λ (splice : Spliced). IsSpliced (g.D.Document.pieces c.args.document.now).order (told (g.D.Document.pieces c.args.document.now) c.args.known.now) dropped splice) (sym put)
    (spliced_now (g.D.Equations.unknowns c.args.document.now) _ _ before c.args.known.now c.args.cell dropped _ (g.met.D.Document.steady c.args.document.now) (g.met.D.Document.cells c.args.document.now) next
    c.in-Some.piece c.in-Some.ensures (copied_some c.get.result _ c.if-is_none.ensures c.get.ensures) room)) c.put_piece.ensures.put c.put_piece.ensures.room

pub returns-in-Some-clause-longer : goal.returns-in-Some-clause-longer
returns-in-Some-clause-longer g c = λ before dropped next.
    longer_now (g.D.Equations.unknowns c.args.document.now) _ _ before c.args.known.now c.args.cell dropped _ (g.met.D.Document.steady c.args.document.now) (g.met.D.Document.cells c.args.document.now) next
    c.in-Some.piece c.in-Some.ensures (copied_some c.get.result _ c.if-is_none.ensures c.get.ensures)

pub returns-in-Some-clause-limit : goal.returns-in-Some-clause-limit
returns-in-Some-clause-limit g c =
    if_held c.put_piece.result (λ past before dropped next.
    past_now (g.D.Equations.unknowns c.args.document.now) _ _ before c.args.known.now c.args.cell dropped _ (g.met.D.Document.steady c.args.document.now) (g.met.D.Document.cells c.args.document.now) next
    c.in-Some.piece c.in-Some.ensures (copied_some c.get.result _ c.if-is_none.ensures c.get.ensures) past) c.put_piece.ensures.limit

pub returns-in-None-clause-spliced : goal.returns-in-None-clause-spliced
returns-in-None-clause-spliced g c = λ before dropped next.
    let other = told_other (g.D.Equations.unknowns c.args.document.now) _ _ before c.args.known.now c.args.cell dropped _ (g.met.D.Document.steady c.args.document.now) (g.met.D.Document.cells c.args.document.now) next c.in-None.ensures in
    spliced_same (g.D.Equations.unknowns c.args.document.now) _ _ before c.args.known.now c.args.cell dropped _ (g.met.D.Document.steady c.args.document.now) (g.met.D.Document.cells c.args.document.now) next other

pub returns-in-None-clause-longer : goal.returns-in-None-clause-longer
returns-in-None-clause-longer g c = λ before dropped next.
    let other = told_other (g.D.Equations.unknowns c.args.document.now) _ _ before c.args.known.now c.args.cell dropped _ (g.met.D.Document.steady c.args.document.now) (g.met.D.Document.cells c.args.document.now) next c.in-None.ensures in
    longer_same (g.D.Equations.unknowns c.args.document.now) _ _ before c.args.known.now c.args.cell dropped _ (g.met.D.Document.steady c.args.document.now) (g.met.D.Document.cells c.args.document.now) next other
