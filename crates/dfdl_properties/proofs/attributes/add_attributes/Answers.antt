use Rattle.std.proofs.Common.{◌+◌, ◌<◌, drop, length, sym, subst, ◌∙◌, [], ◌∷◌}
use Rattle.dfdl_markup.specs.Trees.{node_at}
use Rattle.dfdl_xml_tree.specs.Texts.{attribute_at}
use Rattle.dfdl_scope.specs.declared.properties.Properties.{Properties}
use Rattle.dfdl_properties.specs.Forms.{among_attributes, written_by}
use Rattle.dfdl_properties.specs.Shown.{IsWith}
use Rattle.dfdl_properties.proofs.Steps.{attribute-writes, attribute-does-not}
use Rattle.dfdl_properties.proofs.With.{with-that}
use Rattle.dfdl_properties.proofs.attributes.add_attributes.Goals as goal
use Rattle.dfdl_properties.proofs.attributes.add_attributes.Goals.{then-writes_property+in_ok-add, else-writes_property}

pub loop-at-preserved : goal.loop-at-preserved
loop-at-preserved c =
    let within : c.loop-at.at < length (node_at c.args.tree.now c.args.element).attributes = subst (λ n. c.loop-at.at < n) c.attributes-at-end.ensures c.loop-at-test.true in
    elim c.if-writes_property.branch [
      | then-writes_property+in_ok-add w ↦ λ last others. c.loop-at.invariant last
          (attribute-writes c.args.tree.now c.args.element c.args.namespace.now (node_at c.args.tree.now c.args.element).attributes c.loop-at.at within c.loop-at.own last
          c.if-writes_property.own (sym c.writes_property.ensures ∙ w.if-writes_property.true)
          (subst (λ (p : Properties). IsWith c.loop-at.own (written_by (attribute_at (node_at c.args.tree.now c.args.element) c.loop-at.at) ∷ []) p) (sym w.own-is)
          (with-that c.loop-at.own w.add.new.self _ _ _ _ w.attribute_name.ensures w.attribute_value.ensures w.in_ok-add.ensures.added w.in_ok-add.ensures.twice))
          others)
      | else-writes_property w ↦ λ last others. c.loop-at.invariant last
          (attribute-does-not c.args.tree.now c.args.element c.args.namespace.now (node_at c.args.tree.now c.args.element).attributes c.loop-at.at within c.loop-at.own last
          (sym c.writes_property.ensures ∙ w.if-writes_property.false)
          (subst (λ (p : Properties). IsWith p (among_attributes c.args.tree.now c.args.element c.args.namespace.now (drop (c.loop-at.at + 1) (node_at c.args.tree.now c.args.element).attributes)) last)
          w.own-is others))
    ]
