use Rattle.std.proofs.Common.{refl, arith}
use Rattle.dfdl_markup.specs.Trees.{node_at}
use Rattle.dfdl_xml_tree.specs.Texts.{no_attribute}
use Rattle.dfdl_documents.specs.Loading.{is_among}
use Rattle.dfdl_written.specs.Prefixes.{declares}
use Rattle.dfdl_written.proofs.Gathered.{any_end, any_more}
use Rattle.dfdl_written.proofs.prefixes.with_element.Goals as goal

pub loop-at-init : goal.loop-at-init
loop-at-init c = λ q. refl

pub loop-at-preserved : goal.loop-at-preserved
loop-at-preserved c = λ q.
    any_more (declares q) (node_at c.args.tree.now c.args.element).attributes c.loop-at.at no_attribute (is_among c.loop-at.more q) (is_among c.in_ok-more.more q) _
    (omega (arith, c.loop-at-test.true, c.attributes-at-end.ensures)) (c.in_ok-more.ensures q) (c.loop-at.invariant q)

pub returns : goal.returns
returns c = λ q.
    any_end (declares q) (node_at c.args.tree.now c.args.element).attributes c.loop-at.at (is_among c.loop-at.more q) _
    (omega (arith, c.loop-at-test.false, c.attributes-at-end.ensures)) (c.loop-at.invariant q)
