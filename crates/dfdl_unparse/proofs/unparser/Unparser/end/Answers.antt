use Rattle.std.proofs.Common.{◌∙◌, List, Option, ap, subst}
use Rattle.dfdl_suspend.specs.Outcomes.{IsOutcome}
use Rattle.dfdl_suspend.specs.declared.known.Held.{Held}
use Rattle.dfdl_suspend.specs.declared.solved.Solved.TheVariants.{All, Cycle}
use Rattle.dfdl_unparse.specs.Documents.{all_bits}
use Rattle.dfdl_unparse.proofs.Starts.{all_known, front_whole}
use Rattle.dfdl_unparse.proofs.unparser.Unparser.end.Goals as goal

pub returns-in-Some-stuck-clause-outcome : goal.returns-in-Some-stuck-clause-outcome
returns-in-Some-stuck-clause-outcome g c = λ goes.
    let document = c.args.self.now.document in
    subst (λ (known : List (Option Held)). IsOutcome (g.D.Equations.precedes document) (g.D.Equations.unknowns document) (g.D.Equations.equation document) known (Cycle c.in-Some-stuck.cell))
    (c.requires.ready goes).least c.in-Some-stuck.ensures

pub returns-clause-outcome : goal.returns-clause-outcome
returns-clause-outcome g c = λ goes.
    let document = c.args.self.now.document in
    let unknowns = g.D.Equations.unknowns document in
    let equation = g.D.Equations.equation document in
    let known = c.args.self.now.board.known in
    let faultless = c.in_default-first_fault.ensures in
    let full = all_known (g.D.Equations.precedes document) unknowns equation known faultless c.in_default-stuck.ensures in
    subst (λ (known : List (Option Held)). IsOutcome (g.D.Equations.precedes document) unknowns equation known All) (c.requires.ready goes).least (faultless, full)

pub returns-clause-whole : goal.returns-clause-whole
returns-clause-whole g c =
    let document = c.args.self.now.document in
    let unknowns = g.D.Equations.unknowns document in
    let equation = g.D.Equations.equation document in
    let pieces = g.D.Document.pieces document in
    let known = c.args.self.now.board.known in
    let full = all_known (g.D.Equations.precedes document) unknowns equation known c.in_default-first_fault.ensures c.in_default-stuck.ensures in
    front_whole unknowns pieces known (g.met.D.Document.cells document) full
    ∙ ap (λ (known : List (Option Held)). all_bits pieces known) (c.requires.ready c.in_default.is).least
