use Rattle.std.specs.Prelude.{◌++◌, ◌∷◌, [], map, take, get_or}
use Rattle.std.proofs.Common.{sym, ap, ◌∙◌}
use Rattle.std.proofs.lemmas.List.{take_more}
use Rattle.dfdl_markup.specs.Values.{bindings_of}
use Rattle.dfdl_xml_names.specs.Shown.{attribute_of}
use Rattle.dfdl_xml_names.specs.declared.name.Attribute.{Attribute}
use Rattle.dfdl_xml_names.proofs.Lists.{declared_more}
use Rattle.dfdl_xml_names.proofs.declared.declared_by.Goals as goal

pub loop-attribute-preserved : goal.loop-attribute-preserved
loop-attribute-preserved c =
    let xs = c.args.attributes.now in
    let i = c.loop-attribute.attribute-index in
    let x = get_or xs i c.attribute-item.result in
    c.in_ok-bindings.ensures
    ∙ (ap (λ (z : Attribute). c.loop-attribute.bindings ++ bindings_of (attribute_of z ∷ [])) c.attribute-item.is
    ∙ (ap (λ bs. bs ++ bindings_of (attribute_of x ∷ [])) c.loop-attribute.invariant
    ∙ sym (ap (λ l. bindings_of (map attribute_of l)) (take_more xs i c.attribute-item.result c.loop-attribute-test.true)
    ∙ declared_more (take i xs) x)))
