use Rattle.std.proofs.Common.{sym, subst, ◌∙◌, ◌+◌, drop, filter, get_or}
use Rattle.std.specs.List.{flat_map}
use Rattle.dfdl_markup.specs.Trees.{node_at}
use Rattle.dfdl_scope.specs.declared.properties.Properties.{Properties}
use Rattle.dfdl_properties.specs.Forms.{written_in, is_one}
use Rattle.dfdl_properties.specs.Own.{is_component_properties}
use Rattle.dfdl_properties.specs.Shown.{IsWith}
use Rattle.dfdl_properties.proofs.Steps.{item-writes, item-does-not}
use Rattle.dfdl_properties.proofs.annotations.add_information.Goals as goal
use Rattle.dfdl_properties.proofs.annotations.add_information.Goals.{then-is_component_properties+in_ok-add_written_in, else-is_component_properties}

pub loop-child-preserved : goal.loop-child-preserved
loop-child-preserved c =
    elim c.if-is_component_properties.branch [
      | then-is_component_properties+in_ok-add_written_in w ↦ λ last others. c.loop-child.invariant last
          (item-writes (written_in c.args.tree.now) (is_one c.args.tree.now is_component_properties) c.children-child-items.result.now (node_at c.args.tree.now c.args.information).children c.children-child-items.ensures
          c.loop-child.child-index c.loop-child-test.true c.loop-child.own last c.if-is_component_properties.own
          (sym c.is_component_properties.ensures.value ∙ w.if-is_component_properties.true)
          (subst (λ (p : Properties). IsWith c.loop-child.own (written_in c.args.tree.now (get_or c.children-child-items.result.now c.loop-child.child-index 0)) p) (sym w.own-is)
          w.in_ok-add_written_in.ensures)
          others)
      | else-is_component_properties w ↦ λ last others. c.loop-child.invariant last
          (item-does-not (written_in c.args.tree.now) (is_one c.args.tree.now is_component_properties) c.children-child-items.result.now (node_at c.args.tree.now c.args.information).children c.children-child-items.ensures
          c.loop-child.child-index c.loop-child-test.true c.loop-child.own last
          (sym c.is_component_properties.ensures.value ∙ w.if-is_component_properties.false)
          (subst (λ (p : Properties). IsWith p (flat_map (written_in c.args.tree.now) (filter (is_one c.args.tree.now is_component_properties) (drop (c.loop-child.child-index + 1) (node_at c.args.tree.now c.args.information).children))) last)
          w.own-is others))
    ]
