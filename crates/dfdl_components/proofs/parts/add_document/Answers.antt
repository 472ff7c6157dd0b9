use Rattle.std.proofs.Common.{◌∙◌}
use Rattle.dfdl_components.proofs.Consisting.{pushed_more}
use Rattle.dfdl_components.proofs.parts.add_document.Goals as goal

pub loop-element-preserved : goal.loop-element-preserved
loop-element-preserved c =
    pushed_more c.args.schema.now c.args.document c.loop-element.element c.args.uses.now c.loop-element.uses c.push.new.self c.as_slice.result.now
    c.loop-element.invariant c.in_ok-push.ensures.added (c.as_slice.ensures.value ∙ c.in_ok-find_parts.ensures)
