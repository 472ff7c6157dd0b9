use Rattle.std.proofs.Common.{ℕ, Result, ap, subst, sym, ◌∙◌}
use Rattle.dfdl_value.specs.declared.value.Value.{Value}
use Rattle.dfdl_surroundings.specs.Taking.{taken}
use Rattle.dfdl_grammar.specs.Statements.{calculated, evaluated, with_reads}
use Rattle.dfdl_parse.specs.declared.parser.Parser.{Parser}
use Rattle.dfdl_parse.specs.Shown.{Comes, state_of}
use Rattle.dfdl_parse.proofs.Statings.{after-reads}
use Rattle.dfdl_parse.proofs.parser.Parser.give_value.Goals as goal

pub returns : goal.returns
returns c limits most =
    let old = c.args.self.now in
    let mid = c.evaluate.new.self in
    let calculation = c.args.calculation.now in
    let same = c.in_ok-value.ensures.same in
    after-reads old mid c.give_by.new.self
    (calculated limits (taken calculation.kind (evaluated c.args.terms.now c.args.start calculation.expression (state_of old))))
    (with_reads c.args.terms.now c.args.start calculation.expression (state_of old)) same c.in_ok-value.ensures.reads
    (subst (λ (r : Result Value ℕ). Comes mid (calculated limits r (state_of mid)) c.give_by.new.self)
    (c.take-taken.ensures ∙ ap (taken calculation.kind) c.in_ok-value.ensures.value)
    (c.give_by.ensures limits (most ∙ sym (ap (λ (p : Parser). p.text.most) same))))
