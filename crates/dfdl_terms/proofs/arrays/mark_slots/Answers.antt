use Rattle.std.proofs.Common.{refl, ◌∙◌}
use Rattle.dfdl_terms.proofs.Marks.{next_slot, all_slots, nothing_more}
use Rattle.dfdl_terms.proofs.arrays.mark_slots.Goals as goal

pub loop-slot-init : goal.loop-slot-init
loop-slot-init c = record { many = refl; marked = λ e. nothing_more _ }

pub loop-slot-preserved : goal.loop-slot-preserved
loop-slot-preserved c = record {
  many = c.mark_slot.ensures.many ∙ c.loop-slot.invariant.many;
  marked = λ e. next_slot c.args.marks.now.items c.loop-slot.marks.items c.mark_slot.new.marks.items c.args.slots.now c.loop-slot.slot-index e
      c.slot-item.result c.loop-slot-test.true c.slot-item.is (c.loop-slot.invariant.marked e) (c.mark_slot.ensures.marked e);
}

pub returns-clause-marked : goal.returns-clause-marked
returns-clause-marked c = λ e. all_slots c.args.marks.now.items c.loop-slot.marks.items c.args.slots.now c.loop-slot.slot-index e c.loop-slot-test.false (c.loop-slot.invariant.marked e)
