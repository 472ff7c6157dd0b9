use Rattle.std.proofs.Common.{◌≡◌, ℕ, ap, sym, subst, length, set, get_or, ◌∙◌, arith, length-set, refl}
use Rattle.std.proofs.lemmas.List.{length-map, get_or_read_under}
use Rattle.std.proofs.lemmas.Option.{slice_get_within}
use Rattle.dfdl_suspend.specs.Marks.{IsReadyList, all_woken, woken}
use Rattle.dfdl_suspend.specs.Queues.{IsWaking, IsQueue}
use Rattle.dfdl_suspend.specs.declared.mark.Mark.TheVariants.{Done, Ready}
use Rattle.dfdl_suspend.proofs.Links.{waking_begins}
use Rattle.dfdl_suspend.proofs.Waking.{woken_queue}
use Rattle.dfdl_suspend.proofs.queue.Queue.finish.Goals as goal

pub wake-requires-clause-waking : goal.wake-requires-clause-waking
wake-requires-clause-waking c =
    let marks = c.self.inside.marks.items in
    let first = c.self.inside.first.items in
    let cell = c.leave-cell.result in
    let inside = slice_get_within marks cell Ready c.leave-cell.ensures.was in
    let same = c.self.invariant.0.firsts in
    let head : c.index-head.result.now ≡ get_or first cell 0 = get_or_read_under first cell (length first) c.index-head.result.now 0 c.index-head.ensures (omega (arith, same, inside)) refl in
    subst (λ ms. IsWaking ms c.as_slice.result.now cell c.index-head.result.now) (sym c.leave-cell.ensures.marks)
    (subst (λ ns. IsWaking (set marks cell Done) ns cell c.index-head.result.now) (sym c.as_slice.ensures.value)
    (subst (λ (h : ℕ). IsWaking (set marks cell Done) c.self.inside.next.items cell h) (sym head)
    (waking_begins marks c.self.inside.ready.items c.leave-cell.new.ready.items first c.self.inside.next.items c.self.invariant.0 cell c.leave-cell.ensures.was)))

pub invariant_of-self : goal.invariant_of-self
invariant_of-self c =
    let marks = c.self.inside.marks.items in
    let cell = c.leave-cell.result in
    let room = c.self.invariant.1 in
    let marked : c.wake.new.marks.items ≡ all_woken cell (set marks cell Done) = c.wake.ensures.marks ∙ ap (λ ms. all_woken cell ms) c.leave-cell.ensures.marks in
    let long = ap (λ ms. length ms) marked ∙ (length-map (set marks cell Done) (woken cell) ∙ length-set marks cell Done) in (
      subst (λ ms. IsQueue ms c.wake.new.ready.items c.self.inside.first.items c.self.inside.next.items) (sym marked)
          (woken_queue marks c.self.inside.ready.items c.wake.new.ready.items c.self.inside.first.items c.self.inside.next.items c.self.invariant.0 cell c.leave-cell.ensures.was
          (subst (λ ms. IsReadyList ms c.wake.new.ready.items) marked c.wake.ensures.readies)),
      record {
        within = omega (arith, long, room.within);
        marks_fit = omega (arith, c.leave-cell.ensures.marks_capacity, c.wake.ensures.marks_capacity, room.marks_fit);
        ready_fit = omega (arith, c.leave-cell.ensures.capacity, c.wake.ensures.capacity, room.ready_fit);
        first_fit = room.first_fit;
        next_fit = room.next_fit;
      },
    )
