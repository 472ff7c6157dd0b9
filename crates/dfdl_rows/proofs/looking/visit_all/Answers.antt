use Rattle.std.proofs.Common.{◌-◌, arith}
use Rattle.dfdl_rows.proofs.Looks.{front_part}
use Rattle.dfdl_rows.proofs.looking.visit_all.Goals as goal

pub loop-at-preserved : goal.loop-at-preserved
loop-at-preserved c = record {
  within = omega (arith, c.loop-at.invariant.within);
  same = front_part c.args.parts.now (c.loop-at.at - 1) c.loop-at.at c.push_front.new.self.items c.loop-at.tasks.items
      c.args.tasks.now.items (omega (arith, c.loop-at-test.true)) (omega (arith, c.loop-at-test.true, c.loop-at.invariant.within)) c.in_ok-push_front.ensures.items c.loop-at.invariant.same;
}
