use Rattle.std.proofs.Common.{Bool, cond, false, subst, sym, ◌∙◌}
use Rattle.dfdl_grammar.specs.Marks.{closed}
use Rattle.dfdl_grammar.specs.Occurrences.{as_normal, dropped}
use Rattle.dfdl_grammar.specs.declared.end.End.TheVariants.{Done}
use Rattle.dfdl_looks.specs.Tallies.{nothing}
use Rattle.dfdl_parse.specs.declared.frame.Focus.TheVariants.{Leave}
use Rattle.dfdl_parse.specs.Moves.{pass}
use Rattle.dfdl_parse.specs.Points.{try_occurrence}
use Rattle.dfdl_parse.specs.Shown.{state_of}
use Rattle.dfdl_parse.specs.Steps.{Moved}
use Rattle.dfdl_parse.proofs.parser.Parser.finish_occurrence.Goals as goal

pub returns-then-stays-clause-moved : goal.returns-then-stays-clause-moved
returns-then-stays-clause-moved c held =
    let old = c.args.self.now in
    subst (λ (b : Bool). Moved (cond b (pass nothing held (Leave Done) old.stack (dropped (as_normal (state_of old))))
    (try_occurrence nothing held c.args.body c.args.initiated c.args.left old.stack (closed (as_normal (state_of old))))) false old.far c.drop_occurrence.new.self held 0)
    (sym (sym c.stays_at-stays.ensures ∙ c.if-stays.true)) (c.drop_occurrence.ensures.moved held)
