use Rattle.std.proofs.Common.{ℕ, Result, subst, sym}
use Rattle.dfdl_value.specs.declared.value.Value.{Value}
use Rattle.dfdl_grammar.specs.Statements.{calculated}
use Rattle.dfdl_parse.specs.Shown.{Comes, state_of}
use Rattle.dfdl_parse.proofs.parser.Parser.give_by.Goals as goal

pub returns-in-Ok : goal.returns-in-Ok
returns-in-Ok c limits most =
    subst (λ (r : Result Value ℕ). Comes c.args.self.now (calculated limits r (state_of c.args.self.now)) c.give.new.self) (sym c.in-Ok.is) (c.give.ensures limits most)
