use Rattle.std.proofs.Common.{◌||◌, List, ℕ, ap, arith}
use Rattle.std.specs.List.{list_any}
use Rattle.dfdl_markup.specs.Trees.{no_node}
use Rattle.dfdl_documents.specs.Loading.{is_among}
use Rattle.dfdl_written.specs.Prefixes.{declares_among}
use Rattle.dfdl_written.proofs.Gathered.{any_end, any_more}
use Rattle.dfdl_written.proofs.prefixes.declared_in.Goals as goal

pub loop-element-init : goal.loop-element-init
loop-element-init c = λ q. ap (λ (names : List (List ℕ)). is_among names q || list_any (declares_among q) c.args.tree.now) c.new-prefixes.ensures

pub loop-element-preserved : goal.loop-element-preserved
loop-element-preserved c = λ q.
    any_more (declares_among q) c.args.tree.now c.loop-element.element no_node (is_among c.loop-element.prefixes q) (is_among c.in_ok-prefixes.prefixes q) _
    (omega (arith, c.loop-element-test.true, c.count-element-end.ensures)) (c.in_ok-prefixes.ensures q) (c.loop-element.invariant q)

pub returns : goal.returns
returns c = λ q.
    any_end (declares_among q) c.args.tree.now c.loop-element.element (is_among c.loop-element.prefixes q) _
    (omega (arith, c.loop-element-test.false, c.count-element-end.ensures)) (c.loop-element.invariant q)
