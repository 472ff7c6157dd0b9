use Rattle.std.proofs.Common.{sym, ◌∙◌}
use Rattle.dfdl_xml_names.proofs.Texts.{same_chars}
use Rattle.dfdl_xml_names.proofs.binding_rules.same_text.Goals as goal

pub returns : goal.returns
returns c = c.eq.ensures ∙ sym (same_chars c.args.a.now c.args.b.now c.utf8.a c.utf8.b)
