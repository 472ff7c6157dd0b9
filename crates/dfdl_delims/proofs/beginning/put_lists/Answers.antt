use Rattle.std.proofs.Common.{◌++◌}
use Rattle.dfdl_delims.specs.Standing.{begins_of}
use Rattle.dfdl_delims.proofs.Begins.{list_kept, lists_end}
use Rattle.dfdl_delims.proofs.beginning.put_lists.Goals as goal

pub loop-place-preserved : goal.loop-place-preserved
loop-place-preserved c =
    list_kept c.args.marks.now c.args.starts.now c.args.numbers.now c.loop-place.place _ (c.args.live.now.items ++ begins_of c.args.marks.now c.args.starts.now 0 c.args.numbers.now)
    c.loop-place.live.items c.put_list.new.live.items c.loop-place-test.true c.in_ok-put_list.ensures c.loop-place.invariant

pub returns : goal.returns
returns c =
    lists_end c.args.marks.now c.args.starts.now c.args.numbers.now c.loop-place.place
    (c.args.live.now.items ++ begins_of c.args.marks.now c.args.starts.now 0 c.args.numbers.now) c.loop-place.live.items c.loop-place-test.false
    c.loop-place.invariant
