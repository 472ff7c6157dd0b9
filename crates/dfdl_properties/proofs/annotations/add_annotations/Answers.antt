use Rattle.std.proofs.Common.{sym, subst, ◌∙◌, ◌+◌, drop, filter, get_or}
use Rattle.std.specs.List.{flat_map}
use Rattle.dfdl_markup.specs.Trees.{node_at}
use Rattle.dfdl_scope.specs.declared.properties.Properties.{Properties}
use Rattle.dfdl_properties.specs.Forms.{is_one}
use Rattle.dfdl_properties.specs.Own.{is_annotation, in_annotation}
use Rattle.dfdl_properties.specs.Shown.{IsWith}
use Rattle.dfdl_properties.proofs.Steps.{item-writes, item-does-not}
use Rattle.dfdl_properties.proofs.annotations.add_annotations.Goals as goal
use Rattle.dfdl_properties.proofs.annotations.add_annotations.Goals.{then-is_annotation+in_ok-add_annotation, else-is_annotation}

pub loop-child-preserved : goal.loop-child-preserved
loop-child-preserved c =
    elim c.if-is_annotation.branch [
      | then-is_annotation+in_ok-add_annotation w ↦ λ last others. c.loop-child.invariant last
          (item-writes (in_annotation c.args.tree.now) (is_one c.args.tree.now is_annotation) c.children-child-items.result.now (node_at c.args.tree.now c.args.component).children c.children-child-items.ensures
          c.loop-child.child-index c.loop-child-test.true c.loop-child.own last c.if-is_annotation.own
          (sym c.is_annotation.ensures.value ∙ w.if-is_annotation.true)
          (subst (λ (p : Properties). IsWith c.loop-child.own (in_annotation c.args.tree.now (get_or c.children-child-items.result.now c.loop-child.child-index 0)) p) (sym w.own-is)
          w.in_ok-add_annotation.ensures)
          others)
      | else-is_annotation w ↦ λ last others. c.loop-child.invariant last
          (item-does-not (in_annotation c.args.tree.now) (is_one c.args.tree.now is_annotation) c.children-child-items.result.now (node_at c.args.tree.now c.args.component).children c.children-child-items.ensures
          c.loop-child.child-index c.loop-child-test.true c.loop-child.own last
          (sym c.is_annotation.ensures.value ∙ w.if-is_annotation.false)
          (subst (λ (p : Properties). IsWith p (flat_map (in_annotation c.args.tree.now) (filter (is_one c.args.tree.now is_annotation) (drop (c.loop-child.child-index + 1) (node_at c.args.tree.now c.args.component).children))) last)
          w.own-is others))
    ]
