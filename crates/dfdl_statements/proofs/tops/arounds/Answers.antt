use Rattle.std.proofs.Common.{length, refl}
use Rattle.dfdl_statements.proofs.Tables.{around_told, there_turned, turned_back}
use Rattle.dfdl_statements.proofs.tops.arounds.Goals as goal

pub loop-element-preserved : goal.loop-element-preserved
loop-element-preserved c =
    around_told c.args.rows.now c.loop-element.element c.index-rows-number.result (length c.args.rows.now) c.loop-element.table.items c.tell_inside.new.table.items
    refl
    (there_turned c.args.rows.now (length c.args.rows.now) c.loop-element.element c.index-rows-number.result refl c.loop-element-test.true c.index-rows-number.is)
    c.loop-element.invariant (c.in_ok-tell_inside.ensures (length c.args.rows.now) (turned_back (length c.args.rows.now) c.loop-element.element c.loop-element-test.true))
