use Rattle.std.proofs.Common.{false, Option, subst, sym}
use Rattle.dfdl_parse.specs.declared.frame.Parts.{Parts}
use Rattle.dfdl_parse.specs.Trials.{retry}
use Rattle.dfdl_parse.specs.Shown.{state_of}
use Rattle.dfdl_parse.specs.Steps.{Moved}
use Rattle.dfdl_parse.proofs.parser.Parser.retry.Goals as goal

pub returns-in-None-clause-moved : goal.returns-in-None-clause-moved
returns-in-None-clause-moved c held =
    let old = c.args.self.now in
    subst (λ (p : Option Parts). Moved (retry old.region.most held c.args.id p c.args.next c.args.end old.stack (state_of old)) false old.far c.end_trial.new.self held 0)
    (sym c.in-None.is) (c.end_trial.ensures.moved held)
