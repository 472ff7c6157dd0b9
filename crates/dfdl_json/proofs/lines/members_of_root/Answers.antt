use Rattle.std.proofs.Common.{◌-◌, drop, arith, subst, sym}
use Rattle.dfdl_terms.specs.Arrays.{MarksItems}
use Rattle.dfdl_json.specs.Inside.{all_turned}
use Rattle.dfdl_json.specs.Lines.{members_of}
use Rattle.dfdl_json.proofs.Inner.{counted_up, node_put}
use Rattle.dfdl_json.proofs.lines.members_of_root.Goals as goal

pub loop-at-preserved : goal.loop-at-preserved
loop-at-preserved c =
    let t = c.args.terms.now in
    let nodes = c.args.nodes.now in
    let text = c.args.text.now in
    let at = c.loop-at.at in
    let before = c.loop-at.invariant in
    record {
      some = omega (arith, c.loop-at-test.true);
      within = omega (arith, before.within);
      objects = node_put t text nodes c.in_ok-items.items c.in_ok-hidden.hidden at c.index-nodes-at.result c.put_node.new.objects.items before.some before.within c.index-nodes-at.is (subst (MarksItems t.rows) (sym c.in_ok-items.ensures.items) c.in_ok-items.ensures.marks) c.in_ok-hidden.ensures
          (c.in_ok-put_node.ensures (λ j. all_turned (members_of t text at (drop at nodes) j)) (at - 1) (counted_up c.loop-at.objects.items at (λ j. all_turned (members_of t text at (drop at nodes) j)) before.some before.objects));
    }
