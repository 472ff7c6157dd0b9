use Rattle.std.proofs.Common.{◌≡◌, ◌-◌, Some, ap, refl, ◌∙◌, arith}
use Rattle.dfdl_paths.specs.declared.place.Start.TheVariants.{At}
use Rattle.dfdl_terms.specs.declared.statement.Statement.TheVariants.{Calculation}
use Rattle.dfdl_grammar.specs.States.{State}
use Rattle.dfdl_parse.specs.Shown.{limits_of, state_of}
use Rattle.dfdl_parse.proofs.Statings.{makes-calculation, stays-stated}
use Rattle.dfdl_parse.proofs.parser.Parser.make_statement.Goals as goal

pub returns-in_ok-calculate-in-Calculation-clause-moved : goal.returns-in_ok-calculate-in-Calculation-clause-moved
returns-in_ok-calculate-in-Calculation-clause-moved g c cost free =
    let old = c.args.self.now in
    let held = c.args.sight.now in
    makes-calculation old c.calculate.new.self (limits_of old held) c.args.terms.now old.focus held c.args.number (c.args.steps.now - c.args.steps.now) (omega arith) cost free
    c.args.statement.now c.in-Calculation.calculation c.in-Calculation.is (c.in_ok-calculate-in-Calculation.ensures (limits_of old held) refl)

pub returns-in_ok-calculate-in-Calculation-clause-most : goal.returns-in_ok-calculate-in-Calculation-clause-most
returns-in_ok-calculate-in-Calculation-clause-most g c =
    (c.in_ok-calculate-in-Calculation.ensures (limits_of c.args.self.now c.args.sight.now) refl).limits

pub returns-in_ok-calculate-in-Calculation-clause-at : goal.returns-in_ok-calculate-in-Calculation-clause-at
returns-in_ok-calculate-in-Calculation-clause-at g c =
    let old = c.args.self.now in
    let limits = limits_of old c.args.sight.now in
    let same : c.calculate.new.self.at ≡ old.at =
    ap (λ (s : State). s.at) (c.in_ok-calculate-in-Calculation.ensures limits refl).state
    ∙ stays-stated limits c.args.terms.now (At old.inside) c.args.number (Some (Calculation c.in-Calculation.calculation)) (state_of old) in
    let at = c.requires.at in
    omega arith
