use Rattle.std.specs.Prelude.{map}
use Rattle.std.proofs.Common.{sym, ap, ◌∙◌}
use Rattle.dfdl_markup.specs.Values.{bindings_of}
use Rattle.dfdl_xml_names.specs.Shown.{attribute_of}
use Rattle.dfdl_xml_names.proofs.tag.StartTag.new.Goals as goal

pub invariant_of-result : goal.invariant_of-result
invariant_of-result c = (c.new-2.ensures ∙ ap (λ l. bindings_of (map attribute_of l)) (sym c.new.ensures.items), tt)
