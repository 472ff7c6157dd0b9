use Rattle.std.proofs.Common.{sym}
use Rattle.dfdl_writings.proofs.Plain.{as_it_is}
use Rattle.dfdl_writings.proofs.contents.escaped_if.Goals as goal

pub returns-in-Absent : goal.returns-in-Absent
returns-in-Absent c = λ opened _.
    sym (as_it_is c.args.scheme.now c.args.encoding opened c.args.characters _ c.in-Absent.is)
