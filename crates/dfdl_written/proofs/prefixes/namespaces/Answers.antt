use Rattle.std.proofs.Common.{ap, option_map}
use Rattle.std.specs.Prelude.{string_bytes}
use Rattle.dfdl_written.proofs.Mapped.{none_at, prefix_end, prefix_step}
use Rattle.dfdl_written.proofs.prefixes.namespaces.Goals as goal

pub loop-at-init : goal.loop-at-init
loop-at-init c = λ q. ap (λ o. option_map string_bytes o) (none_at c.new-made.result c.new-made.ensures.empty q)

pub loop-at-preserved : goal.loop-at-preserved
loop-at-preserved c = λ q.
    prefix_step c.args.tree.now c.args.element c.args.prefixes.now c.loop-at.at c.index-prefixes-at.result c.index-prefixes-at.result c.as_str-prefix.result.now q _ _ _
    c.loop-at-test.true c.index-prefixes-at.is c.as_str-prefix.ensures.value c.namespace_in.ensures (c.in_ok-put.ensures q) (c.loop-at.invariant q)

pub returns : goal.returns
returns c = λ q. prefix_end c.args.tree.now c.args.element c.args.prefixes.now c.loop-at.at q _ c.loop-at-test.false (c.loop-at.invariant q)
