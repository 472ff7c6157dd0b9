use Rattle.std.proofs.Common.{◌+◌, ◌-◌, sym, ◌∙◌, arith}
use Rattle.dfdl_cells.specs.declared.cell.Cell.TheVariants.{Items}
use Rattle.dfdl_laying.specs.Laying.{given}
use Rattle.dfdl_laying.specs.Running as running
use Rattle.dfdl_laying.proofs.Joined.{emptied_next, emptied_done}
use Rattle.dfdl_laying.proofs.laid.Laid.empty.Goals as goal

pub loop-number-preserved : goal.loop-number-preserved
loop-number-preserved c =
    (λ i. running.emptied (c.loop-number.number + 1) (c.args.end - (c.loop-number.number + 1)) (c.give.ensures i))
    ∙ ((λ i. running.emptied (c.loop-number.number + 1) (c.args.end - (c.loop-number.number + 1))
    (given (c.new.ensures i) (Items (c.empty-items.ensures i)) c.loop-number.self))
    ∙ (sym (emptied_next c.loop-number.number c.args.end c.loop-number.self (omega (arith, c.loop-number-test.true))) ∙ c.loop-number.invariant))

pub returns : goal.returns
returns c =
    sym (emptied_done c.loop-number.number c.args.end c.loop-number.self (omega (arith, c.loop-number-test.false))) ∙ c.loop-number.invariant
