use Rattle.std.proofs.Common.{◌∙◌}
use Rattle.dfdl_xml_names.proofs.Texts.{none_alike}
use Rattle.dfdl_xml_names.proofs.binding_rules.has_none.Goals as goal

pub returns : goal.returns
returns c = c.is_empty.ensures ∙ none_alike c.args.text.now c.utf8.text
