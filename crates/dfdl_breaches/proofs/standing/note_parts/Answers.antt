use Rattle.std.proofs.Common.{refl, sym, subst, ℕ, ◌∙◌, ◌<◌, length, get_or, arith}
use Rattle.dfdl_components.specs.Recursion.{number_of}
use Rattle.dfdl_checks.specs.Places.{nowhere}
use Rattle.dfdl_breaches.specs.StandingShown.{asked_shown}
use Rattle.dfdl_breaches.proofs.Numbering.{number_below}
use Rattle.dfdl_breaches.proofs.Standings.{all_parts, next_part}
use Rattle.dfdl_breaches.proofs.standing.note_parts.Goals as goal

pub loop-at-init : goal.loop-at-init
loop-at-init c = record { many = refl; noted = λ e. refl }

pub note-requires : goal.note-requires
note-requires c =
    subst (λ (k : ℕ). k < length c.loop-at.standings.items) (sym c.number-number.ensures)
    (subst (λ (k : ℕ). number_of c.args.schema.now (get_or c.args.parts.now c.loop-at.at (record { document = 0; element = 0 })) < k)
    (sym (c.loop-at.invariant.many ∙ c.requires.many))
    (number_below c.args.schema.now (get_or c.args.parts.now c.loop-at.at (record { document = 0; element = 0 }))
    (c.requires.parts c.loop-at.at (record { document = 0; element = 0 }) c.loop-at-test.true)))

pub loop-at-preserved : goal.loop-at-preserved
loop-at-preserved c = record {
  many = c.note.ensures.many ∙ c.loop-at.invariant.many;
  noted = λ e.
      next_part (asked_shown c.args.asking) (number_of c.args.schema.now) c.args.parts.now (get_or c.args.standings.now.items e nowhere)
      (get_or c.loop-at.standings.items e nowhere) (get_or c.note.new.standings.items e nowhere) c.loop-at.at e c.number-number.result (record { document = 0; element = 0 }) c.asked.result
      c.loop-at-test.true c.number-number.ensures c.asked.ensures (c.loop-at.invariant.noted e) (c.note.ensures.noted e);
}

pub returns-clause-noted : goal.returns-clause-noted
returns-clause-noted c = λ e.
    all_parts (asked_shown c.args.asking) (number_of c.args.schema.now) c.args.parts.now _ _ c.loop-at.at e
    (omega (arith, c.loop-at-test.false, c.loop-at.auto.at-end)) (c.loop-at.invariant.noted e)
