use Rattle.std.proofs.Common.{◌≡◌, ◌<◌, ◌+◌, ◌++◌, ◌∷◌, [], sym, ap, subst, ◌∙◌, arith, length, take, drop, append_assoc, length-set}
use Rattle.std.proofs.lemmas.List.{drop_more, take_more}
use Rattle.dfdl_suspend.specs.Boards.{Boarded, Runs, with_set}
use Rattle.dfdl_suspend.specs.Events.{IsSettable, Taking}
use Rattle.dfdl_suspend.specs.declared.mark.Mark.TheVariants.{Ready}
use Rattle.dfdl_suspend.proofs.Taken.{first_waits, settable_rest, taking_set, runs_set}
use Rattle.dfdl_suspend.proofs.events.set_given.Goals as goal

pub loop-cell-preserved : goal.loop-cell-preserved
loop-cell-preserved c =
    let all = c.args.given.now in
    let i = c.loop-cell.cell-index in
    let cell = c.cell-item.result in
    let board = c.loop-cell.board in
    let here : i < length all = omega arith in
    let left : drop i all ≡ cell ∷ drop (i + 1) all = drop_more all i cell here ∙ ap (λ x. x ∷ drop (i + 1) all) (sym c.cell-item.is) in
    let took : take (i + 1) all ≡ take i all ++ cell ∷ [] = take_more all i cell here ∙ ap (λ x. take i all ++ x ∷ []) (sym c.cell-item.is) in
    let settable : IsSettable (cell ∷ drop (i + 1) all) board.marks = subst (λ xs. IsSettable xs board.marks) left c.loop-cell.invariant.2 in (
      ap (λ (b : Boarded). b.known) c.set.ensures ∙ c.loop-cell.invariant.0,
      ap (λ (b : Boarded). length b.marks) c.set.ensures ∙ (length-set board.marks cell Ready ∙ c.loop-cell.invariant.1),
      subst (λ (b : Boarded). IsSettable (drop (i + 1) all) b.marks) (sym c.set.ensures) (settable_rest cell (drop (i + 1) all) board.marks settable),
      λ equation begun. subst (λ (b : Boarded). Taking equation (drop (i + 1) all) b) (sym c.set.ensures)
          (taking_set equation cell (drop (i + 1) all) board (subst (λ xs. Taking equation xs board) left (c.loop-cell.invariant.3 equation begun))),
      λ equation ran were_set begun. subst (λ (b : Boarded). Runs equation b ran (were_set ++ take (i + 1) all)) (sym c.set.ensures)
          (subst (λ xs. Runs equation (with_set board cell) ran xs) (append_assoc were_set (take i all) (cell ∷ []) ∙ ap (λ ys. were_set ++ ys) (sym took))
          (runs_set equation cell board ran (were_set ++ take i all) (first_waits cell (drop (i + 1) all) board.marks settable) (c.loop-cell.invariant.4 equation ran were_set begun))),
    )
