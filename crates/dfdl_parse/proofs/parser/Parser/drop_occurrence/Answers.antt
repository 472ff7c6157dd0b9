use Rattle.std.proofs.Common.{ℕ, false, subst}
use Rattle.dfdl_grammar.specs.Marks.{closed}
use Rattle.dfdl_grammar.specs.Occurrences.{dropped}
use Rattle.dfdl_grammar.specs.declared.end.End.TheVariants.{Done}
use Rattle.dfdl_looks.specs.Tallies.{nothing}
use Rattle.dfdl_parse.specs.declared.frame.Focus.TheVariants.{Leave}
use Rattle.dfdl_parse.specs.Moves.{Machine, pass}
use Rattle.dfdl_parse.specs.Shown.{state_of}
use Rattle.dfdl_parse.specs.Steps.{Moved}
use Rattle.dfdl_parse.proofs.parser.Parser.drop_occurrence.Goals as goal

pub returns-clause-moved : goal.returns-clause-moved
returns-clause-moved c held =
    let old = c.args.self.now in
    subst (λ (far : ℕ). Moved (pass nothing held (Leave Done) old.stack (dropped (state_of old))) false far c.end_trial.new.self held 0) c.go_back.ensures.back.far
    (subst (λ (m : Machine). Moved (pass nothing held (Leave Done) m.stack (closed m.state)) false c.go_back.new.self.far c.end_trial.new.self held 0)
    c.go_back.ensures.back.machine (c.end_trial.ensures.moved held))
