use Rattle.std.proofs.Common.{sym, ◌∙◌}
use Rattle.dfdl_xml_names.proofs.resolved.Resolved.has_none_in.Goals as goal

pub returns : goal.returns
returns c = λ is scope names paired b u. sym (paired c.args.namespace.now b c.utf8.namespace u) ∙ c.lacks.ensures is b
