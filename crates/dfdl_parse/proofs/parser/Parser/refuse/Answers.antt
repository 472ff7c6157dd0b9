use Rattle.std.proofs.Common.{List, false, subst, sym}
use Rattle.dfdl_grammar.specs.declared.mark.Mark.{Mark}
use Rattle.dfdl_parse.specs.Shown.{state_of}
use Rattle.dfdl_parse.specs.Steps.{Moved}
use Rattle.dfdl_parse.specs.Trials.{refused}
use Rattle.dfdl_parse.proofs.parser.Parser.refuse.Goals as goal

pub returns-in-Some-clause-moved : goal.returns-in-Some-clause-moved
returns-in-Some-clause-moved c held =
    let old = c.args.self.now in
    subst (λ (ms : List Mark). Moved (refused ms held old.stack (state_of old)) false old.far c.end_trial.new.self held 0)
    (sym c.in-Some.ensures.some) (c.end_trial.ensures.moved held)
