use Rattle.std.specs.Prelude.{◌++◌, ◌∷◌, [], map}
use Rattle.std.specs.Str.{chars}
use Rattle.std.proofs.Common.{sym, ap, ◌∙◌, subst}
use Rattle.std.proofs.lemmas.List.{map-append}
use Rattle.std.proofs.lemmas.List.Elements.{filter_map-append}
use Rattle.dfdl_markup.specs.Values as values
use Rattle.dfdl_markup.specs.Values.{binding_of, bindings_of}
use Rattle.dfdl_xml_names.specs.Shown.{name_of, attribute_of, text_of}
use Rattle.dfdl_xml_names.specs.Scoped.{scope_seen}
use Rattle.dfdl_xml_names.specs.Indexed.{IsKept}
use Rattle.dfdl_xml_names.proofs.Kept.{bound_by}
use Rattle.dfdl_xml_names.proofs.tag.StartTag.more.Goals as goal

pub invariant_of-result : goal.invariant_of-result
invariant_of-result c =
    let items = c.self.inside.attributes.items in
    let old = map attribute_of items in
    let name = name_of c.args.name in
    let more : values.Attribute = record { name = name; value = text_of c.args.value } in
    let pushed = ap (map attribute_of) c.in_ok-push.ensures.items ∙ map-append attribute_of items _ in
    let declared =
    c.in_ok-declared.ensures
    ∙ (ap (λ bs. bs ++ bound_by name (chars c.as_str.result.now)) c.self.invariant.0
    ∙ ap (λ v. bindings_of old ++ bound_by name (chars v)) c.as_str.ensures.value) in
    let all = declared ∙ (sym (filter_map-append binding_of old (more ∷ [])) ∙ ap bindings_of (sym pushed)) in
    let behind = ap (map attribute_of) c.as_slice.ensures.value in
    let extended =
    c.in_ok-index.ensures (bindings_of old) (text_of c.args.value) old (c.own.ensures ∙ declared) c.self.invariant.1 in
    let kept =
    subst (λ s. IsKept c.in_ok-index.index s (map attribute_of c.as_slice.result.now)) (c.own.ensures ∙ sym c.own-2.ensures)
    (subst (IsKept c.in_ok-index.index (scope_seen c.own.result)) (sym pushed ∙ sym behind) extended) in (
      all,
      subst (λ s. IsKept c.in_ok-index-2.index s (map attribute_of c.push.new.self.items)) (c.own-2.ensures ∙ all)
          (subst (IsKept c.in_ok-index-2.index (scope_seen c.own-2.result)) behind (c.in_ok-index-2.ensures kept)),
    )
