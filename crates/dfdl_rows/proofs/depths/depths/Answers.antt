use Rattle.std.proofs.Common.{◌∙◌, ℕ}
use Rattle.dfdl_rows.specs.Saturated.{saturated_depth_from}
use Rattle.dfdl_rows.proofs.Tables.{known_more, known_all}
use Rattle.dfdl_rows.proofs.Counts.{depth_is}
use Rattle.dfdl_rows.proofs.depths.depths.Goals as goal

pub loop-number-preserved : goal.loop-number-preserved
loop-number-preserved c =
    known_more ℕ c.args.components.now.uses (saturated_depth_from c.args.components.now.components) 0 c.list-number-items.result.now c.loop-number.number-index
    c.loop-number.known.items c.depth_at-depth.result c.loop-number.invariant c.loop-number-test.true
    (rw (← c.parts.ensures.parts, ← c.component-component.ensures.component, ← c.as_slice.ensures.value) c.depth_at-depth.ensures)

pub returns-clause-known : goal.returns-clause-known
returns-clause-known c = λ n within.
    known_all ℕ c.args.components.now.uses (saturated_depth_from c.args.components.now.components) 0 c.list-number-items.result.now c.loop-number.number-index
    c.loop-number.known.items c.loop-number.invariant c.loop-number-test.false n within
    ∙ depth_is c.args.components.now n
