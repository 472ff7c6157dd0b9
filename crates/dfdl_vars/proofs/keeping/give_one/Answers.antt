use Rattle.std.proofs.Common.{rules, arith, sym, ◌≡◌, length, Some}
use Rattle.dfdl_vars.specs.Kept.{start_as}
use Rattle.dfdl_vars.proofs.Backs.{at_beyond}
use Rattle.dfdl_vars.proofs.keeping.give_one.Goals as goal

pub returns-then-var-len-clause-items : goal.returns-then-var-len-clause-items
returns-then-var-len-clause-items c =
    let len : c.len.result ≡ length c.args.instances.now.items = search rules in
    sym (at_beyond (start_as (Some c.args.value.now)) c.args.var c.args.instances.now.items (omega (arith, c.if-var-len.true, len)))
