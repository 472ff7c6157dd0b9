use Rattle.std.proofs.Common.{Bool, cond, false, subst, sym, ◌∙◌}
use Rattle.std.specs.Prelude.{slice_get}
use Rattle.dfdl_grammar.specs.Marks.{back, closed}
use Rattle.dfdl_looks.specs.Tallies.{nothing}
use Rattle.dfdl_parse.specs.declared.frame.Focus.TheVariants.{Leave}
use Rattle.dfdl_parse.specs.Machines.{children_of}
use Rattle.dfdl_parse.specs.Moves.{pass}
use Rattle.dfdl_parse.specs.Points.{try_branch}
use Rattle.dfdl_parse.specs.Shown.{state_of}
use Rattle.dfdl_parse.specs.Steps.{Moved}
use Rattle.dfdl_parse.proofs.parser.Parser.fail_branch.Goals as goal

pub returns-then-settled-clause-moved : goal.returns-then-settled-clause-moved
returns-then-settled-clause-moved c held =
    let old = c.args.self.now in
    subst (λ (b : Bool). Moved (cond b (pass nothing held (Leave c.args.end) old.stack (closed (state_of old)))
    (try_branch nothing held c.args.id c.args.place (slice_get (children_of (slice_get c.args.terms.now.rows c.args.id)) c.args.place) old.stack (back (state_of old))))
    false old.far c.end_trial.new.self held 0)
    (sym (sym c.is_settled-settled.ensures ∙ c.if-settled.true)) (c.end_trial.ensures.moved held)
