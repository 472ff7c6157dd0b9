use Rattle.std.proofs.Common.{◌<◌, subst, ◌≢◌, Some, ap, sym, length, ◌∙◌, arith, length-set}
use Rattle.std.specs.List.{slice_get}
use Rattle.dfdl_suspend.specs.Queued.{Queued}
use Rattle.dfdl_suspend.specs.declared.mark.Mark.TheVariants.{Waits, Done}
use Rattle.dfdl_suspend.proofs.Waking.{wait_queue}
use Rattle.dfdl_suspend.proofs.queue.Queue.wait.Goals as goal

pub invariant_of-self : goal.invariant_of-self
invariant_of-self c =
    let marks = c.self.inside.marks.items in
    let long = ap (λ ms. length ms) c.leave-cell.ensures.marks ∙ length-set marks c.leave-cell.result (Waits c.args.unknown) in
    let room = c.self.invariant.1 in (
      wait_queue marks c.leave-cell.new.marks.items c.self.inside.ready.items c.leave-cell.new.ready.items c.self.inside.first.items c.link.new.first.items
          c.self.inside.next.items c.link.new.next.items c.self.invariant.0 c.leave-cell.result c.args.unknown c.leave-cell.ensures.was
          (subst (λ (q : Queued). c.args.unknown < length q.marks) (sym c.self.view_is) c.requires.unknown)
          (subst (λ (q : Queued). slice_get q.marks c.args.unknown ≢ Some Done) (sym c.self.view_is) c.requires.«open»)
          c.leave-cell.ensures.readies c.leave-cell.ensures.marks c.link.ensures.itself c.link.ensures.first c.link.ensures.next,
      record {
        within = omega (arith, long, room.within);
        marks_fit = omega (arith, c.leave-cell.ensures.marks_capacity, room.marks_fit);
        ready_fit = omega (arith, c.leave-cell.ensures.capacity, room.ready_fit);
        first_fit = omega (arith, c.link.ensures.first_capacity, room.first_fit);
        next_fit = omega (arith, c.link.ensures.next_capacity, room.next_fit);
      },
    )
