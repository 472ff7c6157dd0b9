use Rattle.std.proofs.Common.{sym, ◌∙◌}
use Rattle.dfdl_xml_names.proofs.Texts.{none_there}
use Rattle.dfdl_xml_names.proofs.resolved.are_none.Goals as goal

pub returns : goal.returns
returns c = λ is. none_there c.args.texts.now (sym c.is_empty.ensures ∙ is)
