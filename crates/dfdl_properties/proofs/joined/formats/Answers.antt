use Rattle.std.proofs.Common.{◌∙◌}
use Rattle.std.proofs.lemmas.List.{length-set}
use Rattle.dfdl_properties.proofs.Table.{listed-parts-fit, listed-joined}
use Rattle.dfdl_properties.proofs.joined.formats.Goals as goal

pub format_at-requires-clause-formats : goal.format_at-requires-clause-formats
format_at-requires-clause-formats c =
    listed-parts-fit c.args.refers.now c.args.order.now c.requires.order c.list-format-items.result.now c.list-format-items.ensures c.loop-format.format-index c.loop-format-test.true
    c.loop-format.formats.items c.as_slice.result.now c.as_slice.ensures.value c.loop-format.invariant.0

pub loop-format-preserved : goal.loop-format-preserved
loop-format-preserved c = (
  length-set c.loop-format.formats.items _ c.in_ok-made.made ∙ c.loop-format.invariant.0,
  λ q. listed-joined c.args.refers.now c.args.order.now c.requires.order c.list-format-items.result.now c.list-format-items.ensures c.loop-format.format-index c.loop-format-test.true
      c.loop-format.formats.items c.as_slice.result.now c.as_slice.ensures.value c.loop-format.invariant.0
      c.args.own.now c.in_ok-made.made q (c.loop-format.invariant.1 q) (c.in_ok-made.ensures q),
)
