use Rattle.std.specs.Prelude.{map, true}
use Rattle.std.specs.List.{list_all}
use Rattle.std.proofs.Common.{sym, ap, ◌∙◌}
use Rattle.dfdl_markup.specs.Values.{found, is_found, is_some_text, names_of, xmlns_prefix}
use Rattle.dfdl_xml_names.specs.Scoped.{scope_seen}
use Rattle.dfdl_xml_names.specs.Shown.{attribute_of}
use Rattle.dfdl_xml_names.proofs.Lists.{all_shown}
use Rattle.dfdl_xml_names.proofs.Settled.{all_are_found, none_waits}
use Rattle.dfdl_xml_names.proofs.resolved.Resolved.are_found.Goals as goal

pub returns-then-finds_declarations : goal.returns-then-finds_declarations
returns-then-finds_declarations c = λ own outer is kept.
    let xs = c.args.attributes.now in
    let names = names_of (map attribute_of xs) in
    let only = none_waits own c.args.self.now.waiting names (c.leaves_declarations.ensures c.if-leaves_declarations.true) kept.waiting in
    let some = ap (λ z. is_some_text (found z xmlns_prefix)) (sym is) ∙ c.finds_declarations.ensures c.if-finds_declarations.true in
    sym (all_are_found own outer xs only some)
    ∙ (ap (λ z. list_all (is_found z) names) (sym is) ∙ all_shown (is_found (scope_seen c.args.scope.now)) xs)
