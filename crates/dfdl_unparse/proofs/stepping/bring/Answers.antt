use Rattle.std.proofs.Common.{◌≡◌, ◌-◌, ◌++◌, ℕ, List, Option, None, replicate, length, sym, ap, subst, ◌∙◌, arith}
use Rattle.dfdl_forms.specs.declared.order.BitOrder.{BitOrder}
use Rattle.dfdl_unparse.specs.Documents.{told}
use Rattle.dfdl_unparse.specs.Fronts.{front, whole}
use Rattle.dfdl_unparse.specs.Splices.{IsSpliced}
use Rattle.dfdl_unparse.proofs.Stretches.{front_grown}
use Rattle.dfdl_unparse.proofs.Tellings.{told_grown, told_long}
use Rattle.dfdl_unparse.proofs.stepping.bring.Goals as goal

pub add_pieces-requires-clause-more : goal.add_pieces-requires-clause-more
add_pieces-requires-clause-more g c =
    omega (arith, c.requires.ready.spliced.added, told_long (g.D.Document.pieces c.args.document.now) c.args.board.now.known, c.in-Ok.ensures.lays.more, c.piece_count.ensures)

pub returns-clause-front : goal.returns-clause-front
returns-clause-front g c =
    let old = c.args.document.now in
    let known = c.args.board.now.known in
    let ready = c.requires.ready in
    let grown = told_grown (g.D.Equations.unknowns old) (g.D.Equations.equation old) (g.D.Document.pieces old) (g.D.Document.pieces c.add_event.new.self) (length known) known c.in-Ok.ensures.lays ready.fits.reached
    (λ cell past. c.reached_waiting.ensures (length known) (g.D.Equations.equation old) known cell (g.met.D.Equations.beyond old cell past) ready.fits.reached) in
    ap (λ (ps : List (Option (List ℕ))). front ps) grown ∙ front_grown (told (g.D.Document.pieces old) known) ((g.D.Document.pieces c.add_event.new.self).count - (g.D.Document.pieces old).count)

pub returns-clause-spliced : goal.returns-clause-spliced
returns-clause-spliced g c =
    let old = c.args.document.now in
    let pieces = g.D.Document.pieces c.add_event.new.self in
    let had = g.D.Document.pieces old in
    let known = c.args.board.now.known in
    let ready = c.requires.ready in
    let dropped = whole (front (told had known)) in
    let grown = told_grown (g.D.Equations.unknowns old) (g.D.Equations.equation old) had pieces (length known) known c.in-Ok.ensures.lays ready.fits.reached
    (λ cell past. c.reached_waiting.ensures (length known) (g.D.Equations.equation old) known cell (g.met.D.Equations.beyond old cell past) ready.fits.reached) in
    let count : c.piece_count.result - c.args.front.now.added ≡ pieces.count - had.count = omega (arith, ready.spliced.added, told_long had known, c.piece_count.ensures) in
    subst (λ (order : BitOrder). IsSpliced order (told pieces known) dropped c.add_pieces.new.front) (sym c.in-Ok.ensures.lays.order)
    (subst (λ (ps : List (Option (List ℕ))). IsSpliced had.order ps dropped c.add_pieces.new.front) (ap (λ (n : ℕ). told had known ++ replicate n None) count ∙ sym grown)
    (c.add_pieces.ensures.spliced had.order (told had known) dropped ready.spliced))
