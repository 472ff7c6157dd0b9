use Rattle.dfdl_xml_names.proofs.Put.{none_in}
use Rattle.dfdl_xml_names.proofs.resolved.Resolved.leaves_declarations.Goals as goal

pub returns : goal.returns
returns c = λ is q. none_in c.args.self.now.waiting.others (c.is_empty.ensures.0 is) q
