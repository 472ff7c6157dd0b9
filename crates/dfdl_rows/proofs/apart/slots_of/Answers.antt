use Rattle.std.proofs.Common.{◌∙◌, get_or, refl}
use Rattle.dfdl_rows.specs.Apart.{slots_from}
use Rattle.dfdl_rows.proofs.Grouped.{slots_all, slots_more}
use Rattle.dfdl_rows.proofs.Slotted.{never}
use Rattle.dfdl_rows.proofs.apart.slots_of.Goals as goal

pub loop-at-preserved : goal.loop-at-preserved
loop-at-preserved c =
    slots_more c.args.parts.now c.args.slots.now c.loop-at.at c.part_at.result (get_or c.args.slots.now c.loop-at.at never) c.loop-at.made.items c.push_slot.new.slots.items
    (slots_from c.args.parts.now c.args.slots.now 0) c.loop-at-test.true refl c.part_at.ensures c.in_ok-push_slot.ensures c.loop-at.invariant

pub returns : goal.returns
returns c =
    c.from_vec.ensures
    ∙ slots_all c.args.parts.now c.args.slots.now c.loop-at.at c.loop-at.made.items (slots_from c.args.parts.now c.args.slots.now 0) c.loop-at-test.false c.loop-at.invariant
