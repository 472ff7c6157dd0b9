use Rattle.std.proofs.Common.{◌∙◌, Some, ap, length, refl}
use Rattle.dfdl_statements.specs.Elements.{declared_by}
use Rattle.dfdl_statements.proofs.Tables.{declared_put, there_turned}
use Rattle.dfdl_statements.proofs.declaring.elements.Goals as goal

pub loop-element-preserved : goal.loop-element-preserved
loop-element-preserved c =
    declared_put c.args.rows.now c.loop-element.element c.index-rows-number.result c.loop-element.all.items c.push.new.self.items c.in_ok-declared_by.field-0
    (there_turned c.args.rows.now (length c.args.rows.now) c.loop-element.element c.index-rows-number.result refl c.loop-element-test.true c.index-rows-number.is)
    c.loop-element.invariant
    (c.in_ok-declared_by.ensures c.args.rows.now c.requires.names (c.as_slice.ensures.value ∙ c.in_ok-arounds.ensures)
    (c.as_slice-in-loop-element.ensures.value ∙ c.in_ok-tops.ensures)
    ∙ ap (λ k. declared_by c.args.rows.now k (Some c.index-rows-number.result)) c.new-id.ensures)
    c.in_ok-push.ensures.items
