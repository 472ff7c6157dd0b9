use Rattle.std.proofs.Common.{sym, ◌∙◌}
use Rattle.dfdl_markup.specs.Values.{xml_prefix}
use Rattle.dfdl_xml_names.proofs.Texts.{is_xml}
use Rattle.dfdl_xml_names.proofs.name.is_xml.Goals as goal

pub returns : goal.returns
unfolding xml_prefix
returns c = c.eq.ensures ∙ sym (is_xml c.args.prefix.now c.utf8.prefix)
