use Rattle.std.proofs.Common.{◌≡◌, ℕ, ◌*◌, ◌<◌, ◌-◌, Some, Err, List, [], ◌∷◌, ◌++◌, Option, length, take, sym, ap, subst, ◌∙◌, arith}
use Rattle.std.specs.List.{slice_get}
use Rattle.dfdl_suspend.specs.Asks.{Below, gives}
use Rattle.dfdl_suspend.specs.Boards.{Fits, Runs, with_given}
use Rattle.dfdl_suspend.specs.Rounds.{solution}
use Rattle.dfdl_suspend.specs.declared.known.Held.{Held}
use Rattle.dfdl_suspend.specs.declared.mark.Mark.TheVariants.{Ready}
use Rattle.dfdl_unparse.specs.Documents.{told}
use Rattle.dfdl_unparse.specs.Fronts.{bits_known, front, whole}
use Rattle.dfdl_unparse.specs.Splices.{IsNext, IsSpliced}
use Rattle.dfdl_unparse.proofs.Rests.{rest_closed}
use Rattle.dfdl_unparse.proofs.Results.{if_held}
use Rattle.dfdl_unparse.proofs.Runnings.{goes_on, next, ready_at}
use Rattle.dfdl_unparse.proofs.Tellings.{told_fewer}
use Rattle.dfdl_unparse.proofs.running.run_known.Goals as goal

pub put_known-requires : goal.put_known-requires
put_known-requires g c =
    let document = c.args.document.now in
    let unknowns = g.D.Equations.unknowns document in
    let equation = g.D.Equations.equation document in
    let pieces = g.D.Document.pieces document in
    let at_start : c.running.document ≡ document = c.running.invariant.0 in
    let same : c.run_one.new.equations ≡ document = c.in-Ok.ensures.same ∙ at_start in
    let board = c.running.board in
    let new = c.run_one.new.self in
    let cell = c.in-Ok.cell in
    let inv = c.running.invariant.1 in
    let shown = c.ready-in-running.ensures.shown in
    let ready : slice_get board.marks cell ≡ Some Ready =
    ready_at board c.pick-choice.result cell shown (omega (arith, c.pick-choice.ensures.within, c.ready-in-running.ensures.count)) c.in-Ok.ensures.ran in
    let fits : Fits unknowns equation new = subst (λ d. Fits (g.D.Equations.unknowns d) (g.D.Equations.equation d) new) at_start c.in-Ok.ensures.fits in
    let step : new.known ≡ with_given (gives (equation cell) board.known) cell board.known =
    subst (λ d. new.known ≡ with_given (gives (g.D.Equations.equation d cell) board.known) cell board.known) at_start c.in-Ok.ensures.step in
    let coming : IsNext equation pieces board.known new.known cell (whole (front (told pieces c.args.board.now.known))) c.running.front =
    next unknowns equation pieces c.args.board.now board new c.args.front.now c.running.front c.args.steps.now c.running.steps c.run_one.new.steps _ _ (g.C.Chooser.picks c.pick-choice.new.self) cell
    inv shown ready fits c.in-Ok.ensures.room step in
    record {
      next = subst (λ d. (before : List (Option Held)) × (dropped : ℕ) × IsNext (g.D.Equations.equation d) (g.D.Document.pieces d) before c.known.result.now cell dropped c.running.front) (sym same) (
        board.known,
        whole (front (told pieces c.args.board.now.known)),
        subst (λ (known : List (Option Held)). IsNext equation pieces board.known known cell (whole (front (told pieces c.args.board.now.known))) c.running.front) (sym c.known.ensures) coming,
      );
    }

pub running-preserved : goal.running-preserved
running-preserved g c =
    let document = c.args.document.now in
    let unknowns = g.D.Equations.unknowns document in
    let equation = g.D.Equations.equation document in
    let pieces = g.D.Document.pieces document in
    let at_start : c.running.document ≡ document = c.running.invariant.0 in
    let same : c.run_one.new.equations ≡ document = c.in-Ok.ensures.same ∙ at_start in
    let board = c.running.board in
    let new = c.run_one.new.self in
    let cell = c.in-Ok.cell in
    let inv = c.running.invariant.1 in
    let shown = c.ready-in-running.ensures.shown in
    let ready : slice_get board.marks cell ≡ Some Ready =
    ready_at board c.pick-choice.result cell shown (omega (arith, c.pick-choice.ensures.within, c.ready-in-running.ensures.count)) c.in-Ok.ensures.ran in
    let fits : Fits unknowns equation new = subst (λ d. Fits (g.D.Equations.unknowns d) (g.D.Equations.equation d) new) at_start c.in-Ok.ensures.fits in
    let step : new.known ≡ with_given (gives (equation cell) board.known) cell board.known =
    subst (λ d. new.known ≡ with_given (gives (g.D.Equations.equation d cell) board.known) cell board.known) at_start c.in-Ok.ensures.step in
    let coming : IsNext equation pieces board.known new.known cell (whole (front (told pieces c.args.board.now.known))) c.running.front =
    next unknowns equation pieces c.args.board.now board new c.args.front.now c.running.front c.args.steps.now c.running.steps c.run_one.new.steps _ _ (g.C.Chooser.picks c.pick-choice.new.self) cell
    inv shown ready fits c.in-Ok.ensures.room step in
    let known_is : c.known.result.now ≡ new.known = c.known.ensures in
    let dropped = whole (front (told pieces c.args.board.now.known)) in
    let given : IsNext (g.D.Equations.equation c.run_one.new.equations) (g.D.Document.pieces c.run_one.new.equations) board.known c.known.result.now cell dropped c.running.front =
    subst (λ d. IsNext (g.D.Equations.equation d) (g.D.Document.pieces d) board.known c.known.result.now cell dropped c.running.front) (sym same)
    (subst (λ (known : List (Option Held)). IsNext equation pieces board.known known cell dropped c.running.front) (sym known_is) coming) in
    let put = c.in-Ok-put_known.ensures in
    let spliced : IsSpliced pieces.order (told pieces new.known) dropped c.put_known.new.front =
    subst (λ (known : List (Option Held)). IsSpliced pieces.order (told pieces known) dropped c.put_known.new.front) known_is
    (subst (λ d. IsSpliced (g.D.Document.pieces d).order (told (g.D.Document.pieces d) c.known.result.now) dropped c.put_known.new.front) same (put.spliced board.known dropped given)) in
    let longer : take (length (front (told pieces board.known))) (front (told pieces new.known)) ≡ front (told pieces board.known) =
    subst (λ (known : List (Option Held)). take (length (front (told pieces board.known))) (front (told pieces known)) ≡ front (told pieces board.known)) known_is
    (subst (λ d. take (length (front (told (g.D.Document.pieces d) board.known))) (front (told (g.D.Document.pieces d) c.known.result.now)) ≡ front (told (g.D.Document.pieces d) board.known)) same
    (put.longer board.known dropped given)) in (
      put.same ∙ same,
      goes_on unknowns equation pieces c.args.board.now board new c.args.front.now c.running.front c.args.steps.now c.running.steps c.run_one.new.steps _ _ (g.C.Chooser.picks c.pick-choice.new.self) cell
          inv shown ready fits c.in-Ok.ensures.room step c.put_known.new.front c.in-Ok.ensures.cost c.pick-choice.ensures.counted
          (subst (λ d. (ran were_set : List ℕ) → Runs (g.D.Equations.equation d) board ran were_set → Runs (g.D.Equations.equation d) new (ran ++ cell ∷ []) were_set) at_start c.in-Ok.ensures.runs)
          spliced longer put.most.0 put.most.1,
    )

pub returns-in-Err-put_known-clause-limit : goal.returns-in-Err-put_known-clause-limit
returns-in-Err-put_known-clause-limit g c =
    let document = c.args.document.now in
    let unknowns = g.D.Equations.unknowns document in
    let equation = g.D.Equations.equation document in
    let pieces = g.D.Document.pieces document in
    let at_start : c.running.document ≡ document = c.running.invariant.0 in
    let same : c.run_one.new.equations ≡ document = c.in-Ok.ensures.same ∙ at_start in
    let board = c.running.board in
    let new = c.run_one.new.self in
    let cell = c.in-Ok.cell in
    let inv = c.running.invariant.1 in
    let shown = c.ready-in-running.ensures.shown in
    let ready : slice_get board.marks cell ≡ Some Ready =
    ready_at board c.pick-choice.result cell shown (omega (arith, c.pick-choice.ensures.within, c.ready-in-running.ensures.count)) c.in-Ok.ensures.ran in
    let fits : Fits unknowns equation new = subst (λ d. Fits (g.D.Equations.unknowns d) (g.D.Equations.equation d) new) at_start c.in-Ok.ensures.fits in
    let step : new.known ≡ with_given (gives (equation cell) board.known) cell board.known =
    subst (λ d. new.known ≡ with_given (gives (g.D.Equations.equation d cell) board.known) cell board.known) at_start c.in-Ok.ensures.step in
    let coming : IsNext equation pieces board.known new.known cell (whole (front (told pieces c.args.board.now.known))) c.running.front =
    next unknowns equation pieces c.args.board.now board new c.args.front.now c.running.front c.args.steps.now c.running.steps c.run_one.new.steps _ _ (g.C.Chooser.picks c.pick-choice.new.self) cell
    inv shown ready fits c.in-Ok.ensures.room step in
    let known_is : c.known.result.now ≡ new.known = c.known.ensures in
    let dropped = whole (front (told pieces c.args.board.now.known)) in
    let given : IsNext (g.D.Equations.equation c.run_one.new.equations) (g.D.Document.pieces c.run_one.new.equations) board.known c.known.result.now cell dropped c.running.front =
    subst (λ d. IsNext (g.D.Equations.equation d) (g.D.Document.pieces d) board.known c.known.result.now cell dropped c.running.front) (sym same)
    (subst (λ (known : List (Option Held)). IsNext equation pieces board.known known cell dropped c.running.front) (sym known_is) coming) in
    if_held (Err c.in-Err-put_known.refusal) (λ past.
    let over : 8 * c.running.front.most_bytes < bits_known (told pieces new.known) - dropped =
    subst (λ (known : List (Option Held)). 8 * c.running.front.most_bytes < bits_known (told pieces known) - dropped) known_is
    (subst (λ d. 8 * c.running.front.most_bytes < bits_known (told (g.D.Document.pieces d) c.known.result.now) - dropped) same (past board.known dropped given)) in
    let room : length new.known ≡ length c.args.board.now.known = c.in-Ok.ensures.room ∙ inv.room in
    let below = subst (λ (n : ℕ). Below new.known (solution n equation)) room (c.reached_least.ensures (length new.known) equation new.known fits.reached) in
    let fewer = told_fewer equation pieces (length new.known) new.known (solution (length c.args.board.now.known) equation) (g.met.D.Document.steady document) fits.reached below in
    omega (arith, over, fewer, inv.most_bytes)) c.in-Err-put_known.ensures.limit

pub returns-clause-least : goal.returns-clause-least
returns-clause-least g c =
    let equation = g.D.Equations.equation c.args.document.now in
    let board = c.running.board in
    let none : length board.ready ≡ 0 = omega (arith, c.ready.ensures.count) in
    let inv = c.running.invariant.1 in
    c.solution_is.ensures (length board.known) equation board.known inv.fits.reached
    (rest_closed (g.D.Equations.unknowns c.args.document.now) equation board c.ready.ensures.shown none inv.fits (g.met.D.Equations.beyond c.args.document.now))
    ∙ ap (λ n. solution n equation) inv.room
