use Rattle.std.proofs.Common.{◌≡◌, ◌-◌, sym, ap, ◌∙◌, arith}
use Rattle.dfdl_paths.specs.Values.{index_around, index_within}
use Rattle.dfdl_paths.proofs.Occurrences.{index-item, index-outer, index-last}
use Rattle.dfdl_paths.proofs.occurs.occurs_index.Goals as goal

pub returns-then-is_item : goal.returns-then-is_item
returns-then-is_item c =
    c.place_of.ensures
    ∙ (sym (index-item c.args.items.now c.args.nodes.now c.loop-left.left c.loop-left.number c.loop-left-test.true
    (sym c.is_item.ensures ∙ c.if-is_item.true))
    ∙ c.loop-left.invariant)

pub returns-in-Above : goal.returns-in-Above
returns-in-Above c =
    sym (ap (index_around (index_within c.args.items.now c.args.nodes.now (c.loop-left.left - 1))) (sym c.around.ensures ∙ c.in-Above.is))
    ∙ (sym (index-outer c.args.items.now c.args.nodes.now c.loop-left.left c.loop-left.number c.loop-left-test.true
    (sym c.is_item.ensures ∙ c.if-is_item.false))
    ∙ c.loop-left.invariant)

pub loop-left-preserved : goal.loop-left-preserved
loop-left-preserved c =
    sym (ap (index_around (index_within c.args.items.now c.args.nodes.now (c.loop-left.left - 1))) (sym c.around.ensures ∙ c.in-At.is))
    ∙ (sym (index-outer c.args.items.now c.args.nodes.now c.loop-left.left c.loop-left.number c.loop-left-test.true
    (sym c.is_item.ensures ∙ c.if-is_item.false))
    ∙ c.loop-left.invariant)

pub returns : goal.returns
returns c =
    let none : c.loop-left.left ≡ 0 = omega (arith, c.loop-left-test.false) in
    sym (index-last c.args.items.now c.args.nodes.now c.loop-left.left c.loop-left.number none) ∙ c.loop-left.invariant
