use Rattle.std.proofs.Common.{subst}
use Rattle.dfdl_suspend.specs.Outcomes.{IsFirstFault}
use Rattle.dfdl_suspend.proofs.Earliest.{fault_alone}
use Rattle.dfdl_suspend.proofs.firsts.fault_with.Goals as goal

pub returns-in-None : goal.returns-in-None
returns-in-None g c = λ known is none.
    fault_alone (g.E.Equations.precedes c.args.equations.now) (g.E.Equations.unknowns c.args.equations.now) c.args.cell (g.E.Equations.equation c.args.equations.now) known
    c.requires.cell (g.met.E.Equations.order c.args.equations.now) c.args.cause
    (subst (λ b. IsFirstFault (g.E.Equations.precedes c.args.equations.now) c.args.cell (g.E.Equations.equation c.args.equations.now) known b) c.in-None.is none) is
