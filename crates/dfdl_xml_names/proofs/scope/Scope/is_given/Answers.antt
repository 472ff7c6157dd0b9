use Rattle.std.specs.Prelude.{◌||◌, map}
use Rattle.std.specs.List.{list_any}
use Rattle.std.proofs.Common.{sym, ap, ◌∙◌}
use Rattle.dfdl_markup.specs.Grammar as grammar
use Rattle.dfdl_markup.specs.Values.{same_expanded, same_name, names_of}
use Rattle.dfdl_xml_names.specs.Shown.{attribute_of, name_of}
use Rattle.dfdl_xml_names.specs.Scoped.{scope_seen}
use Rattle.dfdl_xml_names.proofs.Lists.{any_shown}
use Rattle.dfdl_xml_names.proofs.scope.Scope.is_given.Goals as goal

pub returns-then-branch : goal.returns-then-branch
returns-then-branch c =
    let name = name_of c.args.name.now in
    let others = c.args.others.now in
    let same = list_any (λ other. same_expanded (scope_seen c.args.self.now) other name) (names_of (map attribute_of others)) in
    sym (ap (λ b. b || same)
    (any_shown (λ (other : grammar.Name). same_name other name) others ∙ (sym c.in_ok-is_written_among.ensures ∙ c.if-branch.true)))

pub returns : goal.returns
returns c =
    let name = name_of c.args.name.now in
    let others = c.args.others.now in
    let alike = λ (other : grammar.Name). same_expanded (scope_seen c.args.self.now) other name in
    let same = list_any alike (names_of (map attribute_of others)) in
    c.is_same_among.ensures
    ∙ (sym (any_shown alike others)
    ∙ sym (ap (λ b. b || same)
    (any_shown (λ (other : grammar.Name). same_name other name) others ∙ (sym c.in_ok-is_written_among.ensures ∙ c.if-branch.false))))
