use Rattle.std.proofs.Common.{ap, length, ◌∙◌, arith, length-set}
use Rattle.dfdl_suspend.specs.declared.mark.Mark.TheVariants.{Faulty}
use Rattle.dfdl_suspend.proofs.Waking.{fault_queue}
use Rattle.dfdl_suspend.proofs.queue.Queue.fail.Goals as goal

pub invariant_of-self : goal.invariant_of-self
invariant_of-self c =
    let marks = c.self.inside.marks.items in
    let long = ap (λ ms. length ms) c.leave.ensures.marks ∙ length-set marks c.leave.result (Faulty c.args.cause) in
    let room = c.self.invariant.1 in (
      fault_queue marks c.leave.new.marks.items c.self.inside.ready.items c.leave.new.ready.items c.self.inside.first.items c.self.inside.next.items c.self.invariant.0
          c.leave.result c.args.cause c.leave.ensures.was c.leave.ensures.readies c.leave.ensures.marks,
      record {
        within = omega (arith, long, room.within);
        marks_fit = omega (arith, c.leave.ensures.marks_capacity, room.marks_fit);
        ready_fit = omega (arith, c.leave.ensures.capacity, room.ready_fit);
        first_fit = room.first_fit;
        next_fit = room.next_fit;
      },
    )
