use Rattle.std.proofs.Common.{length, refl}
use Rattle.dfdl_statements.proofs.Tables.{there, top_put}
use Rattle.dfdl_statements.proofs.tops.tops.Goals as goal

pub loop-number-preserved : goal.loop-number-preserved
loop-number-preserved c =
    top_put c.args.rows.now c.loop-number.number c.index-rows-number.result c.loop-number.table.items c.push.new.self.items c.as_slice.result.now
    c.in_ok-list.list
    (there c.args.rows.now (length c.args.rows.now) c.loop-number.number c.index-rows-number.result refl c.loop-number-test.true c.index-rows-number.is)
    c.loop-number.invariant c.as_slice.ensures.value (c.in_ok-list.ensures (length c.args.rows.now) c.loop-number.number refl) c.in_ok-push.ensures.items
