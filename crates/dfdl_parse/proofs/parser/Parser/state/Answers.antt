use Rattle.std.proofs.Common.{Option, ap, subst, sym, ◌∙◌}
use Rattle.dfdl_terms.specs.Tables.{Named}
use Rattle.dfdl_terms.specs.declared.statement.Statement.{Statement}
use Rattle.dfdl_grammar.specs.Statements.{stated}
use Rattle.dfdl_parse.specs.Shown.{Comes, state_of}
use Rattle.dfdl_parse.proofs.Statings.{found-statement}
use Rattle.dfdl_parse.proofs.parser.Parser.state.Goals as goal

pub returns-in_ok-state_by-in-Some : goal.returns-in_ok-state_by-in-Some
returns-in_ok-state_by-in-Some c limits most =
    let old = c.args.self.now in
    subst (λ (x : Option Statement). Comes old (stated limits c.args.terms.now c.args.start c.args.number x (state_of old)) c.state_by.new.self)
    (sym (found-statement c.statements.result.now c.args.terms.now.statements c.args.number c.in-Some.statement.now
    (c.statements.ensures ∙ ap (λ (n : Named). n.statements) c.tables.ensures.tables) c.in-Some.ensures.lookup.0 c.in-Some.ensures.lookup.1))
    (c.in_ok-state_by-in-Some.ensures limits most)
