use Rattle.std.specs.Prelude.{◌++◌, map}
use Rattle.std.proofs.Common.{sym, ap, ◌∙◌, subst}
use Rattle.dfdl_markup.specs.Machine.{StartTag, scope_of}
use Rattle.dfdl_markup.specs.Values.{bindings_of, have_same, names_of, same_expanded}
use Rattle.dfdl_xml_names.specs.Shown.{attribute_of}
use Rattle.dfdl_xml_names.specs.Scoped.{scope_seen}
use Rattle.dfdl_xml_names.specs.Indexed.{IsIndexOf, IsKept}
use Rattle.dfdl_xml_names.proofs.Texts.{if_ok}
use Rattle.dfdl_xml_names.proofs.tag.StartTag.has_clash.Goals as goal

pub returns-in-Some : goal.returns-in-Some
returns-in-Some c =
    let outer = scope_of c.args.frames.now in
    let all = map attribute_of c.self.inside.attributes.items in
    let given = ap (λ (t : StartTag). t.attributes) c.self.view_is in
    let slice = ap (map attribute_of) c.as_slice-attributes.ensures.value in
    let bound = c.own-own.ensures ∙ c.self.invariant.0 in
    let seen = c.inside-scope.ensures ∙ ap (λ bs. bs ++ outer) (sym (bound ∙ ap bindings_of given)) in
    let index = subst (λ i. IsKept i (bindings_of all) all) c.in-Some.is c.self.invariant.1 in
    let kept =
    subst (λ s. IsIndexOf c.in-Some.index s (map attribute_of c.as_slice-attributes.result.now)) (sym bound)
    (subst (IsIndexOf c.in-Some.index (bindings_of all)) (sym slice) index) in
    if_ok c.clashes_within.result c.clashes_within.ensures
    (λ clash step.
    step outer seen kept
    ∙ (ap (λ l. have_same (same_expanded (scope_seen c.inside-scope.result)) (names_of l)) (slice ∙ given)
    ∙ ap (λ s. have_same (same_expanded s) (names_of c.args.self.now.attributes)) c.inside-scope.ensures))
