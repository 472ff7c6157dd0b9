use Rattle.std.proofs.Common.{rules, arith, sym, ◌≡◌, length}
use Rattle.std.specs.Prelude.{None}
use Rattle.dfdl_vars.specs.Instances.{set_to}
use Rattle.dfdl_vars.proofs.Backs.{at_beyond}
use Rattle.dfdl_vars.proofs.journal.clear_setting.Goals as goal

pub returns-else-place-len-clause-items : goal.returns-else-place-len-clause-items
returns-else-place-len-clause-items c =
    let len : c.len.result ≡ length c.args.instances.now.items = search rules in
    sym (at_beyond (set_to None) c.args.place c.args.instances.now.items (omega (arith, c.if-place-len.false, len)))
