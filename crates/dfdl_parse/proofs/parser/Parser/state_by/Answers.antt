use Rattle.std.proofs.Common.{◌≡◌, OnOk, Some, subst, sym}
use Rattle.dfdl_terms.specs.declared.statement.Statement.{Statement}
use Rattle.dfdl_grammar.specs.declared.limits.Limits.{Limits}
use Rattle.dfdl_grammar.specs.Statements.{stated}
use Rattle.dfdl_parse.specs.Shown.{Comes, state_of}
use Rattle.dfdl_parse.proofs.parser.Parser.state_by.Goals as goal

pub returns-in-Calculation : goal.returns-in-Calculation
returns-in-Calculation c =
    let old = c.args.self.now in
    subst (λ (x : Statement). OnOk c.calculate.result ((limits : Limits) → limits.text ≡ old.text.most
    → Comes old (stated limits c.args.terms.now c.args.start c.args.number (Some x) (state_of old)) c.calculate.new.self)) (sym c.in-Calculation.is) c.calculate.ensures
