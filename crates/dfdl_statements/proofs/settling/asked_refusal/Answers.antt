use Rattle.dfdl_statements.proofs.Refused.{slot_refused}
use Rattle.dfdl_statements.proofs.settling.asked_refusal.Goals as goal

pub returns : goal.returns
returns c = λ read reads.
    slot_refused read c.args.sight.now c.args.scene.now.rows.now c.args.scene.now.written.now c.args.scene.now.arounds.now c.args.row c.args.slot
    c.new-list.result.items c.push_slot_asked.new.list.items c.as_slice.result.now c.lowest.result c.requires.arounds c.new-list.ensures.items
    c.in_ok-push_slot_asked.ensures c.as_slice.ensures.value (c.lowest.ensures read reads)
