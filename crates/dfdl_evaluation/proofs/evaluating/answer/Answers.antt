use Rattle.dfdl_evaluation.proofs.CellsAnswered.{meets}
use Rattle.dfdl_evaluation.proofs.CellsBelow.{names}
use Rattle.dfdl_evaluation.proofs.evaluating.answer.Goals as goal

pub returns-clause-meets : goal.returns-clause-meets
returns-clause-meets c =
    meets c.args.plan.now c.args.book.now c.args.cell c.args.known.now c.settled.new.known c.settled.result c.in_ok-held.held c.requires.unassigned
    c.in_ok-held.ensures c.settled.ensures

pub returns-clause-names : goal.returns-clause-names
returns-clause-names c =
    names c.args.plan.now c.args.book.now c.args.cell c.args.known.now c.settled.new.known c.settled.result c.requires.sound c.requires.cell
    (meets c.args.plan.now c.args.book.now c.args.cell c.args.known.now c.settled.new.known c.settled.result c.in_ok-held.held c.requires.unassigned
    c.in_ok-held.ensures c.settled.ensures)
