use Rattle.std.proofs.Common.{◌++◌, ◌+◌}
use Rattle.dfdl_delims.specs.Standing.{begins_from, placed}
use Rattle.dfdl_delims.proofs.Begins.{begin_kept, begins_end}
use Rattle.dfdl_delims.proofs.beginning.put_begins.Goals as goal

pub returns-in-None : goal.returns-in-None
returns-in-None c =
    begins_end c.args.place (c.args.live.now.items ++ placed c.args.place (begins_from c.args.starts.now c.args.from c.args.end)) c.begins.live.items
    (begins_from c.args.starts.now c.begins.at c.args.end) c.in-None.ensures c.begins.invariant

pub begins-preserved : goal.begins-preserved
begins-preserved c =
    begin_kept c.args.place c.in-Some.begin (c.args.live.now.items ++ placed c.args.place (begins_from c.args.starts.now c.args.from c.args.end))
    c.begins.live.items c.push.new.self.items (begins_from c.args.starts.now c.begins.at c.args.end) (begins_from c.args.starts.now (c.begins.at + 1) c.args.end)
    c.in-Some.ensures.1 c.in_ok-push-in-Some.ensures.items c.begins.invariant
