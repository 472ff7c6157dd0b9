use Rattle.dfdl_properties.specs.Forms.{short_form}
use Rattle.dfdl_properties.specs.Own.{in_annotations, own_at}
use Rattle.dfdl_properties.proofs.With.{with-both, all-values, all-twice}
use Rattle.dfdl_properties.proofs.own.own_properties.Goals as goal

pub returns-clause-given : goal.returns-clause-given
returns-clause-given c =
    all-values c.new-own.result c.add_annotations.new.own (own_at c.args.tree.now c.args.component) c.new-own.ensures.none
    (with-both c.new-own.result c.add_short_form.new.own c.add_annotations.new.own (short_form c.args.tree.now c.args.component) (in_annotations c.args.tree.now c.args.component)
    c.in_ok-add_short_form.ensures c.in_ok-add_annotations.ensures)

pub returns-clause-twice : goal.returns-clause-twice
returns-clause-twice c =
    all-twice c.new-own.result c.add_annotations.new.own (own_at c.args.tree.now c.args.component) c.new-own.ensures.none c.new-own.ensures.once
    (with-both c.new-own.result c.add_short_form.new.own c.add_annotations.new.own (short_form c.args.tree.now c.args.component) (in_annotations c.args.tree.now c.args.component)
    c.in_ok-add_short_form.ensures c.in_ok-add_annotations.ensures)
