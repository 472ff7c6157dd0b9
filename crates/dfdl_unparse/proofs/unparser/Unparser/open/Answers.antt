use Rattle.std.proofs.Common.{◌≡◌, ℕ, [], sym, ap, subst, ◌∙◌}
use Rattle.dfdl_forms.specs.declared.order.BitOrder.{BitOrder}
use Rattle.dfdl_splice.specs.Splicing.{Spliced}
use Rattle.dfdl_suspend.specs.Boards.{Boarded}
use Rattle.dfdl_unparse.specs.Unparsers.{IsReady}
use Rattle.dfdl_unparse.proofs.Starts.{first_board, first_splice, start_ready, start_taken}
use Rattle.dfdl_unparse.proofs.unparser.Unparser.open.Goals as goal

abbrev with_order : ℕ → ℕ → BitOrder → Spliced
with_order cells held order = record { most_pieces = cells; most_bytes = held; order = order; added = 0; front = []; awaited = [] }

pub returns-clause-ready : goal.returns-clause-ready
returns-clause-ready g c =
    let document = c.args.document in
    let equation = g.D.Equations.equation document in
    let pieces = g.D.Document.pieces document in
    let unknowns = g.D.Equations.unknowns document in
    let front : c.in_ok-front.front ≡ first_splice unknowns c.args.cells c.args.held equation pieces c.requires.empty (g.met.D.Document.cells document) (g.met.D.Equations.beyond document) =
    c.in_ok-front.ensures ∙ ap (λ (order : BitOrder). with_order c.args.cells c.args.held order) c.bit_order.ensures in
    subst (λ (board : Boarded). IsReady unknowns equation pieces board c.in_ok-front.front) (sym c.in_ok-board.ensures.none)
    (subst (λ (splice : Spliced). IsReady unknowns equation pieces (first_board unknowns c.args.cells c.args.held equation pieces c.requires.empty (g.met.D.Document.cells document) (g.met.D.Equations.beyond document)) splice) (sym front)
    (start_ready unknowns c.args.cells c.args.held equation pieces c.requires.empty (g.met.D.Document.cells document) (g.met.D.Equations.beyond document) (c.solution_is.ensures c.args.cells equation)))

pub returns-clause-taken : goal.returns-clause-taken
returns-clause-taken g c =
    let document = c.args.document in
    start_taken (g.D.Equations.unknowns document) c.args.cells c.args.held (g.D.Equations.equation document) (g.D.Document.pieces document) c.requires.empty (g.met.D.Document.cells document)
    (g.met.D.Equations.beyond document) c.in_ok-board.board.known
