use Rattle.std.proofs.Common.{◌++◌, length}
use Rattle.dfdl_statements.specs.Standing.{begun}
use Rattle.dfdl_statements.proofs.Steps.{begun_end, begun_last, begun_more, on_ok}
use Rattle.dfdl_statements.proofs.standing.Scene.push_begun.Goals as goal

pub loop-preserved : goal.loop-preserved
loop-preserved c =
    begun_more c.args.self.now.rows.now c.args.self.now.written.now c.args.self.now.arounds.now c.loop.list.items
    (c.args.list.now.items ++ begun c.args.self.now.rows.now c.args.self.now.written.now c.args.self.now.arounds.now c.args.row)
    (length c.args.self.now.rows.now) c.loop.counter c.loop.at c.loop.invariant c.push_instance.new.list.items
    c.in-Some.instance c.loop-test.true c.in-Some.ensures c.in_ok-push_instance-in-Some.ensures

pub returns-in-None : goal.returns-in-None
returns-in-None c =
    on_ok c.push_grouped.result _ _ c.push_grouped.ensures
    (λ grown.
    begun_last c.args.self.now.rows.now c.args.self.now.written.now c.args.self.now.arounds.now c.loop.list.items
    (c.args.list.now.items ++ begun c.args.self.now.rows.now c.args.self.now.written.now c.args.self.now.arounds.now c.args.row)
    (length c.args.self.now.rows.now) c.loop.counter c.loop.at c.loop.invariant c.push_grouped.new.list.items c.loop-test.true c.in-None.ensures grown)

pub returns : goal.returns
returns c =
    begun_end c.args.self.now.rows.now c.args.self.now.written.now c.args.self.now.arounds.now c.loop.list.items
    (c.args.list.now.items ++ begun c.args.self.now.rows.now c.args.self.now.written.now c.args.self.now.arounds.now c.args.row)
    (length c.args.self.now.rows.now) c.loop.counter c.loop.at c.loop.invariant c.loop-test.false
