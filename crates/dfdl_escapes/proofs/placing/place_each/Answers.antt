use Rattle.dfdl_escapes.proofs.Places.{bytes-kept, place-kept}
use Rattle.dfdl_escapes.proofs.placing.place_each.Goals as goal

pub loop-c-preserved : goal.loop-c-preserved
loop-c-preserved g c =
    let kept = bytes-kept c.args.enc c.args.text.now c.args.bytes.now c.loop-c.c-index _ _ c.loop-c.from c.loop-c-test.true c.c-item.is
    c.loop-c.invariant.encoded c.width_in-from.result c.width_in-from.ensures.width c.loop-c.invariant.within in
    record {
      placed = λ opened holds.
          place-kept c.args.enc c.args.text.now c.args.bytes.now c.loop-c.c-index _ _ c.loop-c.from c.loop-c-test.true c.c-item.is
          c.loop-c.invariant.encoded opened c.in_ok-is_markup.is_markup c.args.into.now.items c.loop-c.into.items c.push.new.self.items
          (c.in_ok-is_markup.ensures opened holds) c.in_ok-push.ensures.items (c.loop-c.invariant.placed opened holds);
      encoded = kept.0;
      within = kept.1;
    }
