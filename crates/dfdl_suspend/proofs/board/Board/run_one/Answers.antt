use Rattle.std.proofs.Common.{◌<◌, ◌++◌, ◌∷◌, [], ℕ, sym, subst, ◌∙◌}
use Rattle.dfdl_suspend.specs.Answers.{Meets}
use Rattle.dfdl_suspend.specs.Boards.{Boarded, Fits, Runs, weight}
use Rattle.dfdl_suspend.specs.Recorded.{IsRecorded}
use Rattle.dfdl_suspend.proofs.OneRun.{Went, went, recordable, shown}
use Rattle.dfdl_suspend.proofs.board.Board.run_one.Goals as goal

pub record_answer-requires-clause-recordable : goal.record_answer-requires-clause-recordable
record_answer-requires-clause-recordable g c =
    let unknowns = g.E.Equations.unknowns c.args.equations.now in
    let equation = g.E.Equations.equation c.args.equations.now in
    let known = c.self.inside.known in
    let queue = c.self.inside.queue in
    let fits : Fits unknowns equation (shown known queue.marks queue.ready) = subst (λ (b : Boarded). Fits unknowns equation b) (sym c.self.view_is) c.requires.fits in
    recordable c.in_ok-answer.answer unknowns equation c.new.result known c.answer.new.known queue.marks c.self.invariant.0 fits.added c.in_ok-answer.ensures.names c.in_ok-answer.ensures.meets

pub invariant_of-self-2 : goal.invariant_of-self-2
invariant_of-self-2 g c =
    let unknowns = g.E.Equations.unknowns c.args.equations.now in
    let equation = g.E.Equations.equation c.args.equations.now in
    let known = c.self.inside.known in
    let queue = c.self.inside.queue in
    let fits : Fits unknowns equation (shown known queue.marks queue.ready) = subst (λ (b : Boarded). Fits unknowns equation b) (sym c.self.view_is) c.requires.fits in
    let cell = c.ready_at-cell.result in
    let after : Went unknowns equation cell known c.answer.new.known queue.marks c.record_answer.new.queue.marks queue.ready c.record_answer.new.queue.ready =
    went c.in_ok-answer.answer unknowns equation cell known c.answer.new.known queue c.record_answer.new.queue c.self.invariant.0 c.ready_at-cell.ensures.ready fits
    c.record_answer.ensures.readies (subst (λ (n : ℕ). Meets (equation n) n known c.answer.new.known c.in_ok-answer.answer) c.new.ensures c.in_ok-answer.ensures.meets)
    (subst (λ (n : ℕ). IsRecorded c.in_ok-answer.answer n queue c.record_answer.new.queue) (sym c.ready_at-cell.ensures.cell) c.record_answer.ensures.recorded) in
    (after.tied, c.record_answer.ensures.room ∙ (c.self.invariant.1 ∙ sym after.long))

pub returns-clause-fits : goal.returns-clause-fits
returns-clause-fits g c =
    let unknowns = g.E.Equations.unknowns c.args.equations.now in
    let equation = g.E.Equations.equation c.args.equations.now in
    let known = c.self.inside.known in
    let queue = c.self.inside.queue in
    let fits : Fits unknowns equation (shown known queue.marks queue.ready) = subst (λ (b : Boarded). Fits unknowns equation b) (sym c.self.view_is) c.requires.fits in
    let cell = c.ready_at-cell.result in
    let after : Went unknowns equation cell known c.answer.new.known queue.marks c.record_answer.new.queue.marks queue.ready c.record_answer.new.queue.ready =
    went c.in_ok-answer.answer unknowns equation cell known c.answer.new.known queue c.record_answer.new.queue c.self.invariant.0 c.ready_at-cell.ensures.ready fits
    c.record_answer.ensures.readies (subst (λ (n : ℕ). Meets (equation n) n known c.answer.new.known c.in_ok-answer.answer) c.new.ensures c.in_ok-answer.ensures.meets)
    (subst (λ (n : ℕ). IsRecorded c.in_ok-answer.answer n queue c.record_answer.new.queue) (sym c.ready_at-cell.ensures.cell) c.record_answer.ensures.recorded) in
    after.fits

pub returns-clause-runs : goal.returns-clause-runs
returns-clause-runs g c = λ ran were_set runs.
    let unknowns = g.E.Equations.unknowns c.args.equations.now in
    let equation = g.E.Equations.equation c.args.equations.now in
    let known = c.self.inside.known in
    let queue = c.self.inside.queue in
    let fits : Fits unknowns equation (shown known queue.marks queue.ready) = subst (λ (b : Boarded). Fits unknowns equation b) (sym c.self.view_is) c.requires.fits in
    let cell = c.ready_at-cell.result in
    let after : Went unknowns equation cell known c.answer.new.known queue.marks c.record_answer.new.queue.marks queue.ready c.record_answer.new.queue.ready =
    went c.in_ok-answer.answer unknowns equation cell known c.answer.new.known queue c.record_answer.new.queue c.self.invariant.0 c.ready_at-cell.ensures.ready fits
    c.record_answer.ensures.readies (subst (λ (n : ℕ). Meets (equation n) n known c.answer.new.known c.in_ok-answer.answer) c.new.ensures c.in_ok-answer.ensures.meets)
    (subst (λ (n : ℕ). IsRecorded c.in_ok-answer.answer n queue c.record_answer.new.queue) (sym c.ready_at-cell.ensures.cell) c.record_answer.ensures.recorded) in
    subst (λ (n : ℕ). Runs equation (shown c.answer.new.known c.record_answer.new.queue.marks c.record_answer.new.queue.ready) (ran ++ n ∷ []) were_set) (sym c.new-2.ensures)
    (after.runs ran were_set (subst (λ (b : Boarded). Runs equation b ran were_set) (sym c.self.view_is) runs))

pub returns-clause-less : goal.returns-clause-less
returns-clause-less g c =
    let unknowns = g.E.Equations.unknowns c.args.equations.now in
    let equation = g.E.Equations.equation c.args.equations.now in
    let known = c.self.inside.known in
    let queue = c.self.inside.queue in
    let fits : Fits unknowns equation (shown known queue.marks queue.ready) = subst (λ (b : Boarded). Fits unknowns equation b) (sym c.self.view_is) c.requires.fits in
    let cell = c.ready_at-cell.result in
    let after : Went unknowns equation cell known c.answer.new.known queue.marks c.record_answer.new.queue.marks queue.ready c.record_answer.new.queue.ready =
    went c.in_ok-answer.answer unknowns equation cell known c.answer.new.known queue c.record_answer.new.queue c.self.invariant.0 c.ready_at-cell.ensures.ready fits
    c.record_answer.ensures.readies (subst (λ (n : ℕ). Meets (equation n) n known c.answer.new.known c.in_ok-answer.answer) c.new.ensures c.in_ok-answer.ensures.meets)
    (subst (λ (n : ℕ). IsRecorded c.in_ok-answer.answer n queue c.record_answer.new.queue) (sym c.ready_at-cell.ensures.cell) c.record_answer.ensures.recorded) in
    subst (λ (b : Boarded). weight (shown c.answer.new.known c.record_answer.new.queue.marks c.record_answer.new.queue.ready) < weight b) c.self.view_is after.less
