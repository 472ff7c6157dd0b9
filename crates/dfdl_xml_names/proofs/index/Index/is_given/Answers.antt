use Rattle.std.specs.Prelude.{◌||◌}
use Rattle.std.specs.List.{list_any}
use Rattle.std.specs.Str.{bytes_eq, chars}
use Rattle.std.proofs.Common.{sym, ap, ◌∙◌}
use Rattle.dfdl_markup.specs.Grammar.{name_characters}
use Rattle.dfdl_markup.specs.Values as values
use Rattle.dfdl_markup.specs.Values.{names_of, same_expanded, same_name}
use Rattle.dfdl_xml_names.specs.Shown.{name_of}
use Rattle.dfdl_xml_names.specs.Scoped.{scope_seen}
use Rattle.dfdl_xml_names.proofs.Lists.{any_name}
use Rattle.dfdl_xml_names.proofs.index.Index.is_given.Goals as goal

pub returns-then-has : goal.returns-then-has
returns-then-has c = λ attributes kept.
    let name = name_of c.args.name.now in
    let same = list_any (λ other. same_expanded (scope_seen c.args.scope.now) other name) (names_of attributes) in
    let written =
    c.has.ensures attributes kept.written
    ∙ (ap (λ l. list_any (λ (a : values.Attribute). bytes_eq (name_characters a.name) l) attributes)
    (ap chars c.as_str.ensures.value ∙ c.in_ok-text.ensures)
    ∙ sym (any_name (λ other. same_name other name) attributes)) in
    sym (ap (λ b. b || same) (sym written ∙ c.if-has.true))

pub returns : goal.returns
returns c = λ attributes kept.
    let name = name_of c.args.name.now in
    let same = list_any (λ other. same_expanded (scope_seen c.args.scope.now) other name) (names_of attributes) in
    let written =
    c.has.ensures attributes kept.written
    ∙ (ap (λ l. list_any (λ (a : values.Attribute). bytes_eq (name_characters a.name) l) attributes)
    (ap chars c.as_str.ensures.value ∙ c.in_ok-text.ensures)
    ∙ sym (any_name (λ other. same_name other name) attributes)) in
    c.has-2.ensures (names_of attributes) kept.resolved.pairs ∙ sym (ap (λ b. b || same) (sym written ∙ c.if-has.false))
