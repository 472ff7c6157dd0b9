use Rattle.std.specs.Prelude.{map, take}
use Rattle.std.proofs.Common.{sym, subst}
use Rattle.dfdl_xml_names.specs.Shown.{attribute_of, text_of}
use Rattle.dfdl_xml_names.specs.Indexed.{IsWritten}
use Rattle.dfdl_xml_names.proofs.Lists.{shown_more}
use Rattle.dfdl_xml_names.proofs.names.Written.of.Goals as goal

pub loop-attribute-preserved : goal.loop-attribute-preserved
loop-attribute-preserved c =
    let xs = c.args.attributes.now in
    let i = c.loop-attribute.attribute-index in
    let x = c.attribute-item.result in
    subst (IsWritten c.add.new.self) (sym (shown_more xs i x c.loop-attribute-test.true c.attribute-item.is))
    (c.in_ok-add.ensures (map attribute_of (take i xs)) (text_of x.value) c.loop-attribute.invariant)
