use Rattle.std.proofs.Common.{◌∙◌}
use Rattle.dfdl_xml_names.proofs.names.Written.has.Goals as goal

pub returns : goal.returns
returns c = λ attributes kept. c.contains.ensures ∙ kept.names c.args.name.now c.utf8.name
