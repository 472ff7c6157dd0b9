use Rattle.std.proofs.Common.{map, chars, sym, ap, ◌∙◌}
use Rattle.dfdl_markup.specs.Values.{found}
use Rattle.dfdl_xml_names.specs.Shown.{attribute_of}
use Rattle.dfdl_xml_tree.proofs.Scopes.{declared_found}
use Rattle.dfdl_xml_tree.proofs.scope.declared.Goals as goal

pub returns : goal.returns
returns c =
    let prefix = chars c.args.prefix.now in
    c.find.ensures
    ∙ (ap (λ bindings. found bindings prefix) c.args.element.now.declares
    ∙ sym (declared_found (map attribute_of c.args.element.now.attributes.items) prefix))
