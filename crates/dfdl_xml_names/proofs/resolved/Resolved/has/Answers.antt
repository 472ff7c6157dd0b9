use Rattle.std.specs.List.{list_any}
use Rattle.std.specs.Str.{chars}
use Rattle.std.proofs.Common.{sym, ap, ◌∙◌}
use Rattle.dfdl_markup.specs.Values.{found, same_expanded}
use Rattle.dfdl_xml_names.specs.Shown.{text_of, name_of}
use Rattle.dfdl_xml_names.specs.Scoped.{scope_seen}
use Rattle.dfdl_xml_names.specs.Expanded.{is_in}
use Rattle.dfdl_xml_names.proofs.Expanded.{none_plain, none_unfound, any_in}
use Rattle.dfdl_xml_names.proofs.resolved.Resolved.has.Goals as goal

pub returns-in-Plain : goal.returns-in-Plain
returns-in-Plain c = λ names kept.
    let scope = scope_seen c.args.scope.now in
    sym (ap (λ n. list_any (λ other. same_expanded scope other (name_of n)) names) c.in-Plain.is ∙ none_plain scope (text_of c.in-Plain.field-0) names)

pub returns-in-None : goal.returns-in-None
returns-in-None c = λ names kept.
    let scope = scope_seen c.args.scope.now in
    sym (ap (λ n. list_any (λ other. same_expanded scope other (name_of n)) names) c.in-Prefixed.is
    ∙ none_unfound scope (text_of c.in-Prefixed.prefix) (text_of c.in-Prefixed.part)
    (sym (c.in-None.ensures ∙ ap (λ l. found scope (chars l)) c.as_str.ensures.value)) names)

pub returns-in-Some : goal.returns-in-Some
returns-in-Some c = λ names kept.
    let scope = scope_seen c.args.scope.now in
    let namespace = chars c.in-Some.namespace.now in
    c.holds.ensures scope names kept
    ∙ (ap (λ l. list_any (is_in scope namespace (chars l)) names) c.as_str-in-Some.ensures.value
    ∙ (any_in scope (text_of c.in-Prefixed.prefix) (text_of c.in-Prefixed.part) namespace
    (sym (c.in-Some.ensures ∙ ap (λ l. found scope (chars l)) c.as_str.ensures.value)) names
    ∙ sym (ap (λ n. list_any (λ other. same_expanded scope other (name_of n)) names) c.in-Prefixed.is)))
