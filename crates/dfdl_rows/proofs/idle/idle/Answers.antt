use Rattle.std.proofs.Common.{Bool, false, get_or}
use Rattle.dfdl_rows.specs.Looking.{idle_from}
use Rattle.dfdl_rows.proofs.Tables.{known_more, known_all}
use Rattle.dfdl_rows.proofs.Looks.{idle_made}
use Rattle.dfdl_rows.proofs.idle.idle.Goals as goal

pub loop-number-preserved : goal.loop-number-preserved
loop-number-preserved c =
    known_more Bool c.args.components.now.uses (idle_from c.args.components.now) false c.list-number-items.result.now c.loop-number.number-index
    c.loop-number.known.items c.is_idle-is_idle.result c.loop-number.invariant c.loop-number-test.true
    (idle_made c.args.components.now (get_or c.list-number-items.result.now c.loop-number.number-index 0) c.refusal-own.result c.component-component.result.now
    c.as_slice.result.now c.loop-number.known.items c.parts.result.now c.is_idle-is_idle.result c.refusal-own.ensures c.component-component.ensures.component
    c.as_slice.ensures.value c.parts.ensures.parts c.is_idle-is_idle.ensures)

pub returns-clause-known : goal.returns-clause-known
returns-clause-known c = λ n within.
    known_all Bool c.args.components.now.uses (idle_from c.args.components.now) false c.list-number-items.result.now c.loop-number.number-index
    c.loop-number.known.items c.loop-number.invariant c.loop-number-test.false n within
