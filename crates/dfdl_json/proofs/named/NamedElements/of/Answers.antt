use Rattle.dfdl_json.proofs.ElementNames.{one_less}
use Rattle.dfdl_json.proofs.named.NamedElements.of.Goals as goal

pub loop-row-preserved : goal.loop-row-preserved
loop-row-preserved c = record {
  rows = one_less c.args.terms.now c.deref-row-items.result.now c.loop-row.named.rows.items c.add.new.self.rows.items _ c.loop-row.row-index c.row-item.result
      c.loop-row-test.true c.row-item.is c.in_ok-add.ensures.rows c.loop-row.invariant.rows;
  names = c.in_ok-add.ensures.names;
}
