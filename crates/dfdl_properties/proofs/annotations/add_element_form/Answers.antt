use Rattle.std.proofs.Common.{sym, subst, ◌∙◌, ◌+◌, drop, filter, get_or}
use Rattle.std.specs.List.{flat_map}
use Rattle.dfdl_markup.specs.Trees.{node_at}
use Rattle.dfdl_scope.specs.declared.properties.Properties.{Properties}
use Rattle.dfdl_properties.specs.Forms.{is_written_property, by_element, is_one}
use Rattle.dfdl_properties.specs.Shown.{IsWith}
use Rattle.dfdl_properties.proofs.Steps.{item-writes, item-does-not}
use Rattle.dfdl_properties.proofs.annotations.add_element_form.Goals as goal
use Rattle.dfdl_properties.proofs.annotations.add_element_form.Goals.{then-is_written_property+in_ok-add_element, else-is_written_property}

pub loop-child-preserved : goal.loop-child-preserved
loop-child-preserved c =
    elim c.if-is_written_property.branch [
      | then-is_written_property+in_ok-add_element w ↦ λ last others. c.loop-child.invariant last
          (item-writes (by_element c.args.tree.now) (is_one c.args.tree.now is_written_property) c.children-child-items.result.now (node_at c.args.tree.now c.args.element).children c.children-child-items.ensures
          c.loop-child.child-index c.loop-child-test.true c.loop-child.own last c.if-is_written_property.own
          (sym c.is_written_property.ensures.value ∙ w.if-is_written_property.true)
          (subst (λ (p : Properties). IsWith c.loop-child.own (by_element c.args.tree.now (get_or c.children-child-items.result.now c.loop-child.child-index 0)) p) (sym w.own-is)
          w.in_ok-add_element.ensures)
          others)
      | else-is_written_property w ↦ λ last others. c.loop-child.invariant last
          (item-does-not (by_element c.args.tree.now) (is_one c.args.tree.now is_written_property) c.children-child-items.result.now (node_at c.args.tree.now c.args.element).children c.children-child-items.ensures
          c.loop-child.child-index c.loop-child-test.true c.loop-child.own last
          (sym c.is_written_property.ensures.value ∙ w.if-is_written_property.false)
          (subst (λ (p : Properties). IsWith p (flat_map (by_element c.args.tree.now) (filter (is_one c.args.tree.now is_written_property) (drop (c.loop-child.child-index + 1) (node_at c.args.tree.now c.args.element).children))) last)
          w.own-is others))
    ]
