use Rattle.std.proofs.Common.{◌∙◌}
use Rattle.dfdl_xml_names.proofs.resolved.Resolved.holds.Goals as goal

pub returns : goal.returns
returns c = λ scope names kept. c.has.ensures ∙ kept c.args.namespace.now c.args.part.now c.utf8.namespace c.utf8.part
