use Rattle.std.proofs.Common.{◌≡◌, ℕ, OnOk, Result, Bool, cond, subst, sym}
use Rattle.dfdl_value.specs.declared.value.Value.{Value}
use Rattle.dfdl_surroundings.specs.Taking.{taken}
use Rattle.dfdl_grammar.specs.declared.end.End.TheVariants.{Done}
use Rattle.dfdl_grammar.specs.declared.limits.Limits.{Limits}
use Rattle.dfdl_grammar.specs.Outcomes.{ended}
use Rattle.dfdl_grammar.specs.States.{State}
use Rattle.dfdl_grammar.specs.Statements.{calculated, evaluated, with_reads}
use Rattle.dfdl_parse.specs.Shown.{Comes, state_of}
use Rattle.dfdl_parse.proofs.parser.Parser.calculate.Goals as goal

pub returns : goal.returns
returns c =
    let old = c.args.self.now in
    let s : State = state_of old in
    let calculation = c.args.calculation.now in
    let found : Result Value ℕ = taken calculation.kind (evaluated c.args.terms.now c.args.start calculation.expression s) in
    let behind : State = with_reads c.args.terms.now c.args.start calculation.expression s in
    subst (λ (output : Bool). OnOk c.give_value.result ((limits : Limits) → limits.text ≡ old.text.most
    → Comes old (cond output (ended Done s) (calculated limits found behind)) c.give_value.new.self)) (sym c.if-calculation.false) c.give_value.ensures
