use Rattle.std.proofs.Common.{◌≡◌, Ok, ap, subst, sym, ◌∙◌}
use Rattle.dfdl_value.specs.declared.value.Value.{Value}
use Rattle.dfdl_value.specs.declared.value.Value.TheVariants as values
use Rattle.dfdl_grammar.specs.Statements.{calculated}
use Rattle.dfdl_parse.specs.Shown.{Comes, state_of}
use Rattle.dfdl_parse.proofs.parser.Parser.give.Goals as goal

pub returns-in-Text : goal.returns-in-Text
returns-in-Text c limits most =
    let old = c.args.self.now in
    subst (λ (v : Value). Comes old (calculated limits (Ok v) (state_of old)) c.give_str.new.self) (sym (c.in-Text.is ∙ ap values.Text (sym c.as_str.ensures)))
    (c.give_str.ensures limits most)
