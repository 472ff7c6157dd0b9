use Rattle.std.proofs.Common.{rules, arith, sym, ◌≡◌, length}
use Rattle.std.specs.Prelude.{false}
use Rattle.dfdl_vars.specs.Instances.{read_as}
use Rattle.dfdl_vars.proofs.Backs.{at_beyond}
use Rattle.dfdl_vars.proofs.journal.clear_read.Goals as goal

pub returns-else-place-len-clause-items : goal.returns-else-place-len-clause-items
returns-else-place-len-clause-items c =
    let len : c.len.result ≡ length c.args.instances.now.items = search rules in
    sym (at_beyond (read_as false) c.args.place c.args.instances.now.items (omega (arith, c.if-place-len.false, len)))
