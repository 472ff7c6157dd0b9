use Rattle.std.specs.Prelude.{◌++◌, map}
use Rattle.std.proofs.Common.{sym, ap, ◌∙◌, subst}
use Rattle.dfdl_markup.specs.Values.{bindings_of}
use Rattle.dfdl_xml_names.specs.Shown.{name_of, text_of, attribute_of}
use Rattle.dfdl_xml_names.specs.Indexed.{IsKept}
use Rattle.dfdl_xml_names.proofs.Kept.{bound_none}
use Rattle.dfdl_xml_names.proofs.Lists.{declared_more, no_more}
use Rattle.dfdl_xml_names.proofs.tag.StartTag.push.Goals as goal

pub invariant_of-self-then-stay_few : goal.invariant_of-self-then-stay_few
invariant_of-self-then-stay_few c =
    let items = c.self.inside.attributes.items in
    let now = c.push.new.self.items in
    let bound = bindings_of (map attribute_of items) in
    let none = c.declares_none.ensures c.if-declares_none.true in (
      c.self.invariant.0
          ∙ sym (ap (λ l. bindings_of (map attribute_of l)) c.in_ok-push.ensures.items
          ∙ (declared_more items _
          ∙ (ap (λ bs. bound ++ bs) (bound_none (name_of c.args.name) (text_of c.args.value) none) ∙ no_more bound))),
      subst (λ i. IsKept i (bindings_of (map attribute_of now)) (map attribute_of now)) (sym (c.stay_few.ensures c.if-stay_few.true)) tt,
    )
