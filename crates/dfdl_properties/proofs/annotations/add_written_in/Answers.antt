use Rattle.dfdl_properties.specs.Forms.{attribute_form, element_form}
use Rattle.dfdl_properties.proofs.With.{with-both}
use Rattle.dfdl_properties.proofs.annotations.add_written_in.Goals as goal

pub returns : goal.returns
returns c =
    with-both c.args.own.now c.add_attribute_form.new.own c.add_element_form.new.own (attribute_form c.args.tree.now c.args.element) (element_form c.args.tree.now c.args.element)
    c.in_ok-add_attribute_form.ensures c.in_ok-add_element_form.ensures
