use Rattle.std.specs.Prelude.{map}
use Rattle.std.proofs.Common.{ap, ◌∙◌, subst}
use Rattle.dfdl_markup.specs.Machine.{StartTag}
use Rattle.dfdl_markup.specs.Values.{bindings_of, have_same, names_of, same_expanded}
use Rattle.dfdl_xml_names.specs.Shown.{attribute_of}
use Rattle.dfdl_xml_names.specs.Indexed.{IsKept}
use Rattle.dfdl_xml_names.proofs.tag.StartTag.clashes.Goals as goal

pub returns-in-Some : goal.returns-in-Some
returns-in-Some c =
    let all = map attribute_of c.self.inside.attributes.items in
    let kept = subst (λ i. IsKept i (bindings_of all) all) c.in-Some.is c.self.invariant.1 in
    kept.resolved.clash
    ∙ ap (λ (t : StartTag). have_same (same_expanded (bindings_of t.attributes)) (names_of t.attributes)) c.self.view_is
