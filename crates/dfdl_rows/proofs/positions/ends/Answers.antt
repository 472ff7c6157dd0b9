use Rattle.std.proofs.Common.{◌∙◌, ℕ, Option, None}
use Rattle.dfdl_rows.specs.Saturated.{saturated_end_from}
use Rattle.dfdl_rows.proofs.Tables.{known_more, known_all}
use Rattle.dfdl_rows.proofs.Counts.{end_is}
use Rattle.dfdl_rows.proofs.positions.ends.Goals as goal

pub loop-number-preserved : goal.loop-number-preserved
loop-number-preserved c =
    known_more (Option ℕ) c.args.components.now.uses (saturated_end_from c.args.components.now c.args.place) None c.list-number-items.result.now c.loop-number.number-index
    c.loop-number.known.items c.end_at-end.result c.loop-number.invariant c.loop-number-test.true
    (rw (← c.as_slice.ensures.value) c.end_at-end.ensures)

pub returns-clause-known : goal.returns-clause-known
returns-clause-known c = λ n within.
    known_all (Option ℕ) c.args.components.now.uses (saturated_end_from c.args.components.now c.args.place) None c.list-number-items.result.now c.loop-number.number-index
    c.loop-number.known.items c.loop-number.invariant c.loop-number-test.false n within
    ∙ end_is c.args.components.now c.args.place n
