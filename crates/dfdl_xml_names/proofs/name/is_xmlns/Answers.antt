use Rattle.std.proofs.Common.{sym, ◌∙◌}
use Rattle.dfdl_markup.specs.Values.{xmlns_prefix}
use Rattle.dfdl_xml_names.proofs.Texts.{is_xmlns}
use Rattle.dfdl_xml_names.proofs.name.is_xmlns.Goals as goal

pub returns : goal.returns
unfolding xmlns_prefix
returns c = c.eq.ensures ∙ sym (is_xmlns c.args.prefix.now c.utf8.prefix)
