use Rattle.std.proofs.Common.{Bool, cond, false, subst, sym, ◌∙◌}
use Rattle.dfdl_grammar.specs.Marks.{closed}
use Rattle.dfdl_grammar.specs.declared.end.End.TheVariants.{Done}
use Rattle.dfdl_looks.specs.Tallies.{nothing}
use Rattle.dfdl_parse.specs.declared.frame.Focus.TheVariants.{Leave}
use Rattle.dfdl_parse.specs.Moves.{pass}
use Rattle.dfdl_parse.specs.Shown.{state_of}
use Rattle.dfdl_parse.specs.Steps.{Moved}
use Rattle.dfdl_parse.specs.Trials.{refused}
use Rattle.dfdl_parse.proofs.parser.Parser.finish_trial.Goals as goal

pub returns-then-refuses-clause-moved : goal.returns-then-refuses-clause-moved
returns-then-refuses-clause-moved c held =
    let old = c.args.self.now in
    subst (λ (b : Bool). Moved (cond b (refused old.marks held old.stack (state_of old)) (pass nothing held (Leave Done) old.stack (closed (state_of old))))
    false old.far c.refuse.new.self held 0) (sym (sym c.is_refused-refuses.ensures ∙ c.if-refuses.true)) (c.refuse.ensures.moved held)

pub returns-else-refuses-clause-moved : goal.returns-else-refuses-clause-moved
returns-else-refuses-clause-moved c held =
    let old = c.args.self.now in
    subst (λ (b : Bool). Moved (cond b (refused old.marks held old.stack (state_of old)) (pass nothing held (Leave Done) old.stack (closed (state_of old))))
    false old.far c.end_trial.new.self held 0) (sym (sym c.is_refused-refuses.ensures ∙ c.if-refuses.false)) (c.end_trial.ensures.moved held)
