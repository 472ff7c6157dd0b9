use Rattle.std.proofs.Common.{ℕ, ◌≡◌, ◌<◌, ◌++◌, ◌∷◌, [], ap, sym, subst, length, arith}
use Rattle.std.proofs.lemmas.List.{length_push}
use Rattle.dfdl_suspend.specs.Queues.{IsQueue, list_end}
use Rattle.dfdl_suspend.specs.Queued.{Queued}
use Rattle.dfdl_suspend.specs.declared.mark.Mark.TheVariants.{Ready}
use Rattle.dfdl_suspend.proofs.Readies.{few_ready}
use Rattle.dfdl_suspend.proofs.Links.{added_queue}
use Rattle.dfdl_suspend.proofs.queue.Queue.add.Goals as goal

pub put_behind-requires-2 : goal.put_behind-requires-2
put_behind-requires-2 c =
    let room = c.self.invariant.1 in
    let few = few_ready c.self.inside.marks.items c.self.inside.ready.items c.self.invariant.0.readies in
    let less : length c.self.inside.marks.items < c.self.inside.room = subst (λ (q : Queued). length q.marks < q.room) (sym c.self.view_is) c.requires in
    omega (arith, few, less, room.ready_fit)

pub invariant_of-self : goal.invariant_of-self
invariant_of-self c =
    let marks = c.self.inside.marks.items in
    let room = c.self.invariant.1 in
    let less : length c.self.inside.marks.items < c.self.inside.room = subst (λ (q : Queued). length q.marks < q.room) (sym c.self.view_is) c.requires in
    let same : c.len-cell.result ≡ length marks = omega (arith, c.len-cell.ensures) in
    let more = length_push marks Ready in (
      subst (λ ms. IsQueue ms c.put_behind-2.new.items.items c.put_behind-3.new.items.items c.put_behind-4.new.items.items) (sym c.put_behind.ensures.items)
          (subst (λ rs. IsQueue (marks ++ Ready ∷ []) rs c.put_behind-3.new.items.items c.put_behind-4.new.items.items) (sym c.put_behind-2.ensures.items)
          (subst (λ fs. IsQueue (marks ++ Ready ∷ []) (c.self.inside.ready.items ++ c.len-cell.result ∷ []) fs c.put_behind-4.new.items.items) (sym c.put_behind-3.ensures.items)
          (subst (λ ns. IsQueue (marks ++ Ready ∷ []) (c.self.inside.ready.items ++ c.len-cell.result ∷ []) (c.self.inside.first.items ++ list_end ∷ []) ns) (sym c.put_behind-4.ensures.items)
          (subst (λ (n : ℕ). IsQueue (marks ++ Ready ∷ []) (c.self.inside.ready.items ++ n ∷ []) (c.self.inside.first.items ++ list_end ∷ []) (c.self.inside.next.items ++ list_end ∷ []))
          (sym same) (added_queue marks c.self.inside.ready.items c.self.inside.first.items c.self.inside.next.items c.self.invariant.0 (omega (arith, less))))))),
      record {
        within = omega (arith, ap (λ ms. length ms) c.put_behind.ensures.items, more, less);
        marks_fit = omega (arith, c.put_behind.ensures.capacity, room.marks_fit);
        ready_fit = omega (arith, c.put_behind-2.ensures.capacity, room.ready_fit);
        first_fit = omega (arith, c.put_behind-3.ensures.capacity, room.first_fit);
        next_fit = omega (arith, c.put_behind-4.ensures.capacity, room.next_fit);
      },
    )
