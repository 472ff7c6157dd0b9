use Rattle.std.proofs.Common.{◌∙◌, ℕ}
use Rattle.dfdl_rows.specs.Saturated.{saturated_size_from}
use Rattle.dfdl_rows.proofs.Tables.{known_more, known_all}
use Rattle.dfdl_rows.proofs.Counts.{size_is}
use Rattle.dfdl_rows.proofs.sizes.sizes.Goals as goal

pub loop-number-preserved : goal.loop-number-preserved
loop-number-preserved c =
    known_more ℕ c.args.components.now.uses (saturated_size_from c.args.components.now) 0 c.list-number-items.result.now c.loop-number.number-index
    c.loop-number.known.items c.size_at-size.result c.loop-number.invariant c.loop-number-test.true
    (rw (← c.in_ok-slots.ensures, ← c.as_slice.ensures.value, ← c.as_slice-in-loop-number.ensures.value, ← c.parts.ensures.parts, ← c.component-component.ensures.component) c.size_at-size.ensures)

pub returns-clause-known : goal.returns-clause-known
returns-clause-known c = λ n within.
    known_all ℕ c.args.components.now.uses (saturated_size_from c.args.components.now) 0 c.list-number-items.result.now c.loop-number.number-index
    c.loop-number.known.items c.loop-number.invariant c.loop-number-test.false n within
    ∙ size_is c.args.components.now n
