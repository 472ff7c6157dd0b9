use Rattle.std.proofs.Common.{sym, arith}
use Rattle.std.proofs.lemmas.Str.Pattern.{split_parts}
use Rattle.dfdl_constructs.proofs.Colons.{divided, whole}
use Rattle.dfdl_constructs.proofs.qualified.at_colon.Goals as goal

pub returns-in-Some : goal.returns-in-Some
returns-in-Some c =
    let parts = split_parts 58 c.args.text.now c.split_once.result c.split_once.ensures.cases (omega arith) in
    let at = (rw c.in-Some.is at parts) in
    sym (divided c.args.text.now _ _ at.0 at.1)

pub returns-in-None : goal.returns-in-None
returns-in-None c =
    let parts = split_parts 58 c.args.text.now c.split_once.result c.split_once.ensures.cases (omega arith) in
    let at = (rw c.in-None.is at parts) in
    sym (whole c.args.text.now at)
