use Rattle.dfdl_writings.proofs.Repeats.{begun, once_more}
use Rattle.dfdl_writings.proofs.paddings.put_repeated.Goals as goal

pub loop-at-init : goal.loop-at-init
loop-at-init c = begun c.args.into.now.items c.args.bytes.now

pub loop-at-preserved : goal.loop-at-preserved
loop-at-preserved c =
    once_more c.loop-at.at c.args.into.now.items c.loop-at.into.items _ c.args.bytes.now c.loop-at.invariant c.in_ok-extend_from_slice.ensures.items
