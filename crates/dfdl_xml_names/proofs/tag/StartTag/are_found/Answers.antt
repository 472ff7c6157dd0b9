use Rattle.std.specs.Prelude.{map}
use Rattle.std.specs.List.{list_all}
use Rattle.std.proofs.Common.{sym, ap, ◌∙◌, subst}
use Rattle.dfdl_markup.specs.Values.{bindings_of, is_found, names_of}
use Rattle.dfdl_markup.specs.Machine.{StartTag, scope_of}
use Rattle.dfdl_xml_names.specs.Expanded.{IsResolved}
use Rattle.dfdl_xml_names.specs.Indexed.{IsKept}
use Rattle.dfdl_xml_names.specs.Shown.{attribute_of}
use Rattle.dfdl_xml_names.specs.Scoped.{scope_seen}
use Rattle.dfdl_xml_names.proofs.Lists.{all_shown}
use Rattle.dfdl_xml_names.proofs.tag.StartTag.are_found.Goals as goal

pub returns-in-None : goal.returns-in-None
returns-in-None c =
    let scope = scope_seen c.inside-scope.result in
    c.are_found-in-None.ensures
    ∙ (sym (all_shown (λ name. is_found scope name) c.as_slice-attributes.result.now)
    ∙ (ap (λ l. list_all (λ name. is_found scope name) (names_of l)) (ap (map attribute_of) c.as_slice-attributes.ensures.value ∙ ap (λ (t : StartTag). t.attributes) c.self.view_is)
    ∙ ap (λ s. list_all (λ name. is_found s name) (names_of c.args.self.now.attributes)) c.inside-scope.ensures))

pub returns-in-Some : goal.returns-in-Some
returns-in-Some c =
    let scope = scope_seen c.inside-scope.result in
    let all = map attribute_of c.self.inside.attributes.items in
    let given = ap (λ (t : StartTag). t.attributes) c.self.view_is in
    let slice = ap (map attribute_of) c.as_slice-attributes.ensures.value in
    let index = subst (λ i. IsKept i (bindings_of all) all) c.in-Some.is c.self.invariant.1 in
    let kept =
    subst (λ s. IsResolved c.in-Some.index.resolved s (names_of (map attribute_of c.as_slice-attributes.result.now))) (ap bindings_of given)
    (subst (λ l. IsResolved c.in-Some.index.resolved (bindings_of all) (names_of l)) (sym slice) index.resolved) in
    c.are_found.ensures (bindings_of c.args.self.now.attributes) (scope_of c.args.frames.now) c.inside-scope.ensures kept
    ∙ (sym (all_shown (λ name. is_found scope name) c.as_slice-attributes.result.now)
    ∙ (ap (λ l. list_all (λ name. is_found scope name) (names_of l)) (slice ∙ given)
    ∙ ap (λ s. list_all (λ name. is_found s name) (names_of c.args.self.now.attributes)) c.inside-scope.ensures))
