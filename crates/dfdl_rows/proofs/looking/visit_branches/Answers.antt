use Rattle.std.proofs.Common.{◌-◌, arith}
use Rattle.dfdl_rows.proofs.Looks.{front_branch}
use Rattle.dfdl_rows.proofs.looking.visit_branches.Goals as goal

pub loop-at-preserved : goal.loop-at-preserved
loop-at-preserved c = record {
  within = omega (arith, c.loop-at.invariant.within);
  same = front_branch c.args.parts.now (c.loop-at.at - 1) c.loop-at.at c.push_front-in-loop-at.new.self.items c.push_front.new.self.items c.loop-at.tasks.items
      c.args.tasks.now.items (omega (arith, c.loop-at-test.true)) (omega (arith, c.loop-at-test.true, c.loop-at.invariant.within))
      c.in_ok-push_front-2.ensures.items c.in_ok-push_front.ensures.items c.loop-at.invariant.same;
}
