use Rattle.std.proofs.Common.{◌∙◌}
use Rattle.dfdl_statements.proofs.Refused.{place_put}
use Rattle.dfdl_statements.proofs.settling.places.Goals as goal

pub loop-number-preserved : goal.loop-number-preserved
loop-number-preserved c =
    place_put c.args.scene.now.rows.now c.args.scene.now.written.now c.loop-number.number c.args.scene.now.arounds.now c.as_slice.result.now c.as_slice-in-loop-number.result.now
    c.loop-number.all.items c.note.new.places.items c.note-in-loop-number.new.places.items c.requires.arounds (c.as_slice.ensures.value ∙ c.in_ok-list.ensures)
    (c.as_slice-in-loop-number.ensures.value ∙ c.in_ok-asked.ensures) c.loop-number.invariant c.note.ensures c.note-in-loop-number.ensures
