use Rattle.std.proofs.Common.{◌≡◌, ℕ, [], true, ◌∙◌, inl, inr}
use Rattle.dfdl_suspend.specs.Asks.{is_in}
use Rattle.dfdl_suspend.specs.Events.{Taking}
use Rattle.dfdl_suspend.proofs.Taken.{taking_begins, runs_begin}
use Rattle.dfdl_suspend.proofs.events.take_up.Goals as goal

none_in : {P : Type 0} (cell : ℕ) → is_in cell [] ≡ true → P
none_in cell e = absurd (cc)

pub set_given-requires : goal.set_given-requires
set_given-requires g c =
    let equation = g.E.Equations.equation c.args.equations.now in
    let begun : Taking equation c.args.given.now c.args.board.now = taking_begins c.requires.brought.0 equation c.args.given.now c.args.board.now c.requires.brought.1 c.ready.ensures.shown in
    let grown : Taking equation c.args.given.now c.add_new.new.board = c.add_new.ensures.taking equation c.args.given.now begun in
    grown.settable

pub returns-clause-fits : goal.returns-clause-fits
returns-clause-fits g c =
    let equation = g.E.Equations.equation c.args.equations.now in
    let begun : Taking equation c.args.given.now c.args.board.now = taking_begins c.requires.brought.0 equation c.args.given.now c.args.board.now c.requires.brought.1 c.ready.ensures.shown in
    let grown : Taking equation c.args.given.now c.add_new.new.board = c.add_new.ensures.taking equation c.args.given.now begun in
    let taken : Taking equation [] c.set_given.new.board = c.set_given.ensures.taking equation grown in
    record {
      added = c.set_given.ensures.added ∙ (c.add_new.ensures.added ∙ c.count-2.ensures);
      reached = taken.reached;
      recorded = λ cell mark e. elim (taken.recorded cell mark e) [
        | inl agrees ↦ agrees
        | inr left ↦ none_in cell left
      ];
    }

pub returns-clause-runs : goal.returns-clause-runs
returns-clause-runs g c = λ before ran were_set brings runs.
    let equation = g.E.Equations.equation c.args.equations.now in
    c.set_given.ensures.runs equation ran were_set
    (c.add_new.ensures.runs equation ran were_set (runs_begin before equation c.args.given.now c.args.board.now brings c.ready.ensures.shown ran were_set runs))
