use Rattle.std.proofs.Common.{refl, sym, ap, subst, ℕ, List, ◌∙◌, ◌<◌, drop, length, get_or, arith}
use Rattle.dfdl_components.specs.Recursion.{number_of}
use Rattle.dfdl_checks.specs.Places.{both_of, nowhere}
use Rattle.dfdl_breaches.specs.Standing.{keying_among}
use Rattle.dfdl_breaches.proofs.Numbering.{number_below}
use Rattle.dfdl_breaches.proofs.Standings.{all_branches, next_branch}
use Rattle.dfdl_breaches.proofs.standing.note_branches.Goals as goal

pub loop-at-init : goal.loop-at-init
loop-at-init c = record {
  many = refl;
  noted = λ e.
      ap (λ (ks : List (List ℕ)). both_of (get_or c.args.standings.now.items e nowhere) (keying_among c.args.schema.now ks (drop 0 c.args.branches.now) e))
      c.new-taken.ensures.items;
}

pub note-requires : goal.note-requires
note-requires c =
    subst (λ (k : ℕ). k < length c.loop-at.standings.items) (sym c.number-number.ensures)
    (subst (λ (k : ℕ). number_of c.args.schema.now (get_or c.args.branches.now c.loop-at.at (record { document = 0; element = 0 })) < k)
    (sym (c.loop-at.invariant.many ∙ c.requires.many))
    (number_below c.args.schema.now (get_or c.args.branches.now c.loop-at.at (record { document = 0; element = 0 }))
    (c.requires.branches c.loop-at.at (record { document = 0; element = 0 }) c.loop-at-test.true)))

pub loop-at-preserved : goal.loop-at-preserved
loop-at-preserved c = record {
  many = c.note.ensures.many ∙ c.loop-at.invariant.many;
  noted = λ e.
      next_branch c.args.schema.now c.args.branches.now e (get_or c.args.standings.now.items e nowhere)
      (get_or c.loop-at.standings.items e nowhere) (get_or c.note.new.standings.items e nowhere) c.loop-at.taken.items c.take_keys.new.taken.items
      c.as_slice.result.now c.loop-at.at c.number-number.result (record { document = 0; element = 0 }) c.in_ok-again.again c.asked_key.result
      c.loop-at-test.true c.number-number.ensures (c.as_slice.ensures ∙ c.in_ok-keys.ensures) c.in_ok-again.ensures.again c.in_ok-again.ensures.taken
      c.asked_key.ensures (c.loop-at.invariant.noted e) (c.note.ensures.noted e);
}

pub returns-clause-noted : goal.returns-clause-noted
returns-clause-noted c = λ e.
    all_branches c.args.schema.now c.args.branches.now e _ _ c.loop-at.taken.items c.loop-at.at
    (omega (arith, c.loop-at-test.false, c.loop-at.auto.at-end)) (c.loop-at.invariant.noted e)
