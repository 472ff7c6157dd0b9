use Rattle.std.proofs.Common.{◌^◌, ◌∙◌, ap, arith}
use Rattle.dfdl_splice.specs.Copying.{Buffered}
use Rattle.dfdl_splice.proofs.Entries.{within-more}
use Rattle.dfdl_splice.proofs.Packs.{packing_step}
use Rattle.dfdl_splice.proofs.pack.pack.Goals as goal

pub keep-kept-requires-clause-within : goal.keep-kept-requires-clause-within
keep-kept-requires-clause-within c =
    let p = c.loop-at.invariant.packing in
    within-more _ (2 ^ 62) _ (omega (arith, p.bits, c.requires.bits)) p.within

pub loop-at-preserved : goal.loop-at-preserved
loop-at-preserved c = record {
  packing = packing_step _ c.args.arena.now.bits c.loop-at.spare.bits c.moved-entry.new.spare.bits c.loop-at.entries.items c.keep-kept.new.entries.items
      c.loop-at.kept c.keep-kept.result c.loop-at.at c.index.result.now c.moved-entry.result
      c.loop-at.invariant.packing (omega arith) c.index.ensures c.loop-at.invariant.few c.moved-entry.ensures.entry
      (ap (λ (b : Buffered). b.bits) c.moved-entry.ensures.bits) c.keep-kept.ensures.kept c.keep-kept.ensures.rest;
  few = omega arith;
  len = omega arith;
  capacity = omega arith;
  order = ap (λ (b : Buffered). b.order) c.moved-entry.ensures.bits ∙ c.loop-at.invariant.order;
  room = ap (λ (b : Buffered). b.room) c.moved-entry.ensures.bits ∙ c.loop-at.invariant.room;
}
