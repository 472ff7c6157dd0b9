use Rattle.std.proofs.Common.{arith}
use Rattle.dfdl_rows.proofs.Located.{part_before}
use Rattle.dfdl_rows.proofs.positions.first_end.Goals as goal

pub loop-at-preserved : goal.loop-at-preserved
loop-at-preserved c = record {
  within = omega (arith, c.loop-at.invariant.within);
  same = part_before c.args.sizes.now c.args.known.now c.args.parts.now c.loop-at.at 0 c.loop-at.found c.end_behind-found.result
      c.loop-at-test.true c.loop-at.invariant.within c.loop-at.invariant.same c.end_behind-found.ensures;
}
