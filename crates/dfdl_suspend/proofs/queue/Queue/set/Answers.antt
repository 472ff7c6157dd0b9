use Rattle.std.proofs.Common.{◌≡◌, Some, sym, subst, set, arith, length-set}
use Rattle.std.specs.List.{slice_get}
use Rattle.dfdl_suspend.specs.Queues.{IsQueue}
use Rattle.dfdl_suspend.specs.Queued.{Queued}
use Rattle.dfdl_suspend.specs.declared.mark.Mark.TheVariants.{Waits, Ready}
use Rattle.dfdl_suspend.proofs.Readies.{room_ready, waits_ready}
use Rattle.dfdl_suspend.proofs.Waking.{set_queue}
use Rattle.dfdl_suspend.proofs.queue.Queue.set.Goals as goal

pub put_behind-requires : goal.put_behind-requires
put_behind-requires c =
    let room = c.self.invariant.1 in
    let less = room_ready c.self.inside.marks.items c.self.inside.ready.items c.args.cell (Waits c.args.cell) c.self.invariant.0.readies (subst (λ (q : Queued). slice_get q.marks c.args.cell ≡ Some (Waits c.args.cell)) (sym c.self.view_is) c.requires) (waits_ready c.args.cell) in
    omega (arith, less, room.within, room.ready_fit)

pub invariant_of-self : goal.invariant_of-self
invariant_of-self c =
    let marks = c.self.inside.marks.items in
    let room = c.self.invariant.1 in
    let same = length-set marks c.args.cell Ready in (
      subst (λ rs. IsQueue (set marks c.args.cell Ready) rs c.self.inside.first.items c.self.inside.next.items) (sym c.put_behind.ensures.items)
          (set_queue marks c.self.inside.ready.items c.self.inside.first.items c.self.inside.next.items c.self.invariant.0 c.args.cell (subst (λ (q : Queued). slice_get q.marks c.args.cell ≡ Some (Waits c.args.cell)) (sym c.self.view_is) c.requires)),
      record {
        within = omega (arith, same, room.within);
        marks_fit = room.marks_fit;
        ready_fit = omega (arith, c.put_behind.ensures.capacity, room.ready_fit);
        first_fit = room.first_fit;
        next_fit = room.next_fit;
      },
    )
