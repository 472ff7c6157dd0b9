use Rattle.std.proofs.Common.{ap, ◌^◌}
use Rattle.dfdl_rows.specs.Slots.{Laid, all_laid, laid}
use Rattle.dfdl_rows.proofs.Slotted.{laid_end, laid_few, laid_more}
use Rattle.dfdl_rows.proofs.slots.lay.Goals as goal

pub loop-at-preserved : goal.loop-at-preserved
loop-at-preserved c = record {
  same = laid_more c.args.initiated c.args.way c.args.first c.args.parts.now c.args.slots.now c.loop-at.at c.part_at-part.result c.loop-at.rows.items c.push_part.new.rows.items
      c.loop-at.children.items c.push_part.new.children.items c.loop-at.taken c.is_taken-taken.result c.loop-at-test.true c.in_ok-push_part.ensures.rows
      (all_laid c.args.initiated c.args.way c.args.slots.now c.args.parts.now c.args.first) c.part_at-part.ensures c.in_ok-push_part.ensures.children c.is_taken-taken.ensures
      c.loop-at.invariant.same;
  few = laid_few c.args.initiated c.args.way c.args.first c.args.parts.now c.args.slots.now c.loop-at.at c.part_at-part.result c.loop-at.rows.items c.push_part.new.rows.items
      c.loop-at.children.items c.push_part.new.children.items c.loop-at.taken c.is_taken-taken.result c.loop-at-test.true c.in_ok-push_part.ensures.rows
      (2 ^ 32) c.loop-at.invariant.few;
}

pub returns-clause-rows : goal.returns-clause-rows
returns-clause-rows c =
    ap (λ (a : Laid). a.rows)
    (laid_end c.args.initiated c.args.way c.args.first c.args.parts.now c.args.slots.now c.loop-at.at (laid c.loop-at.rows.items c.loop-at.children.items c.loop-at.taken)
    (all_laid c.args.initiated c.args.way c.args.slots.now c.args.parts.now c.args.first) c.loop-at-test.false c.loop-at.invariant.same)

pub returns-clause-children : goal.returns-clause-children
returns-clause-children c =
    ap (λ (a : Laid). a.children)
    (laid_end c.args.initiated c.args.way c.args.first c.args.parts.now c.args.slots.now c.loop-at.at (laid c.loop-at.rows.items c.loop-at.children.items c.loop-at.taken)
    (all_laid c.args.initiated c.args.way c.args.slots.now c.args.parts.now c.args.first) c.loop-at-test.false c.loop-at.invariant.same)
