use Rattle.std.proofs.Common.{◌^◌, ◌-◌, arith}
use Rattle.dfdl_rows.proofs.Opened.{instances_end, instances_few, instances_more, outermost_end, outermost_more}
use Rattle.dfdl_rows.proofs.framing.push_instances.Goals as goal

pub push_last-requires : goal.push_last-requires
push_last-requires c =
    instances_few c.args.openings.first c.loop-behind.behind c.loop-behind.body c.loop-behind.rows.items c.args.rows.now.items c.args.openings.count c.args.content (2 ^ 32)
    (omega (arith, c.loop-behind-test.true)) c.loop-behind.invariant.rows c.requires

pub loop-behind-preserved : goal.loop-behind-preserved
loop-behind-preserved c = record {
  rows = instances_more c.args.openings.first c.loop-behind.behind (c.loop-behind.behind - 1) (omega (arith, c.loop-behind-test.true)) c.in_ok-statement.statement c.loop-behind.body
      c.in_ok-statement.ensures c.loop-behind.rows.items c.push_last.new.rows.items c.in_ok-body.ensures.rows _ _ c.in_ok-body.ensures.number c.loop-behind.invariant.rows;
  outermost = outermost_more c.args.openings.first c.loop-behind.behind (c.loop-behind.behind - 1) (omega (arith, c.loop-behind-test.true)) c.in_ok-statement.statement
      c.loop-behind.body c.in_ok-statement.ensures c.loop-behind.rows.items c.push_last.new.rows.items c.in_ok-body.ensures.rows _ _ c.in_ok-body.ensures.number
      c.loop-behind.invariant.outermost;
}

pub returns-clause-rows : goal.returns-clause-rows
returns-clause-rows c =
    instances_end c.args.openings.first c.loop-behind.behind c.loop-behind.body c.loop-behind.rows.items _ (omega (arith, c.loop-behind-test.false)) c.loop-behind.invariant.rows

pub returns-clause-outermost : goal.returns-clause-outermost
returns-clause-outermost c =
    outermost_end c.loop-behind.behind c.loop-behind.body _ _ (omega (arith, c.loop-behind-test.false)) c.loop-behind.invariant.outermost
