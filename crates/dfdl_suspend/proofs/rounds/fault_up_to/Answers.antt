use Rattle.std.proofs.Common.{rules}
use Rattle.dfdl_suspend.proofs.Earliest.{fault_skip, known_no_fault, wait_no_fault}
use Rattle.dfdl_suspend.proofs.rounds.fault_up_to.Goals as goal

pub returns-then-is_some-clause-fault : goal.returns-then-is_some-clause-fault
returns-then-is_some-clause-fault g c =
    fault_skip (g.E.Equations.precedes c.args.equations.now) (g.E.Equations.unknowns c.args.equations.now) c.args.cell (g.E.Equations.equation c.args.equations.now) c.args.known.now
    c.requires.cell (g.met.E.Equations.order c.args.equations.now) c.args.best
    (known_no_fault _ (g.E.Equations.equation c.args.equations.now) c.args.known.now c.args.cell c.requires.fits (search rules)) c.requires.best

pub returns-in-Wait-clause-fault : goal.returns-in-Wait-clause-fault
returns-in-Wait-clause-fault g c =
    fault_skip (g.E.Equations.precedes c.args.equations.now) (g.E.Equations.unknowns c.args.equations.now) c.args.cell (g.E.Equations.equation c.args.equations.now) c.args.known.now
    c.requires.cell (g.met.E.Equations.order c.args.equations.now) c.args.best
    (wait_no_fault (g.E.Equations.equation c.args.equations.now) c.args.known.now c.args.cell c.in-Wait.field-0 (let met = rw c.in-Wait.is at c.in_ok-cause.ensures.meets in met.0)) c.requires.best
