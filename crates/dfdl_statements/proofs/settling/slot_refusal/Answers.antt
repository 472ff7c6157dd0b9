use Rattle.std.proofs.Common.{◌∙◌, ap}
use Rattle.dfdl_statements.specs.Settled.{beside, given_at}
use Rattle.dfdl_statements.proofs.settling.slot_refusal.Goals as goal

pub returns : goal.returns
returns c = λ read reads.
    c.beside.ensures
    ∙ (ap (λ o. beside o c.in_ok-found.found) c.given_at.ensures
    ∙ ap (beside (given_at c.args.given c.args.slot.now.body)) (c.in_ok-found.ensures read reads))
