use Rattle.std.proofs.Common.{◌-◌, length}
use Rattle.std.specs.Vec.{vec_capacity}
use Rattle.dfdl_suspend.proofs.Woken.{GoesAlong}
use Rattle.dfdl_suspend.proofs.queue.wake.Given as goal

abbrev pub invariant-waking : goal.invariant-waking
invariant-waking l = GoesAlong l.fn.marks.items l.marks.items l.ready.items l.next l.unknown l.at (vec_capacity l.fn.marks) (vec_capacity l.marks) (vec_capacity l.fn.ready) (vec_capacity l.ready)

abbrev pub decreases-waking : goal.decreases-waking
decreases-waking l = length l.marks.items - length l.ready.items
