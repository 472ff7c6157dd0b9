use Rattle.std.proofs.Common.{false, Some, subst, sym}
use Rattle.dfdl_parse.specs.declared.frame.Next.{Next}
use Rattle.dfdl_parse.specs.Trials.{retry}
use Rattle.dfdl_parse.specs.Shown.{state_of}
use Rattle.dfdl_parse.specs.Steps.{Moved}
use Rattle.dfdl_parse.proofs.parser.Parser.retry_by.Goals as goal

pub returns-in-Nothing-clause-moved : goal.returns-in-Nothing-clause-moved
returns-in-Nothing-clause-moved c held =
    let old = c.args.self.now in
    subst (λ (n : Next). Moved (retry old.region.most held c.args.id (Some c.args.parts) n c.args.end old.stack (state_of old)) false old.far c.end_trial.new.self held 0)
    (sym c.in-Nothing.is) (c.end_trial.ensures.moved held)
